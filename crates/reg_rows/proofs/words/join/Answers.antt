use Rattle.std.proofs.Common.{ℕ, ◌<◌, ◌^◌, get_or, arith, rules, sym, subst}
use Rattle.std.proofs.lemmas.Nat.{or_lt}
use Rattle.reg_rows.proofs.WordLaws.{has_joined, join_past, IsJoined-write, IsJoined-keep, sum_fits}
use Rattle.reg_rows.proofs.words.join.Goals as goal
use Rattle.reg_rows.proofs.words.join.Goals.{then-both-into, else-both-into}

pub loop-i-preserved : goal.loop-i-preserved
loop-i-preserved c =
    elim c.if-both-into.branch [
      | then-both-into w ↦ rw (w.into-is, w.changed-is) (IsJoined-write _ _ c.loop-i.into c.loop-i.i c.loop-i.changed (omega arith) c.loop-i.invariant w.if-both-into.true)
      | else-both-into w ↦ rw (w.into-is, w.changed-is) (IsJoined-keep _ _ c.loop-i.into c.loop-i.i c.loop-i.changed c.loop-i.invariant w.if-both-into.false)
    ]

pub returns-clause-each : goal.returns-clause-each
returns-clause-each c = has_joined c.args.into.now c.args.from.now c.loop-i.into (join_past _ _ _ (omega arith) (omega arith) (λ k h. c.loop-i.invariant.done k (omega arith)))

pub returns-clause-fits : goal.returns-clause-fits
returns-clause-fits c =
    sum_fits c.loop-i.into (λ k l.
    let a : get_or c.args.into.now k 0 < 2 ^ 64 = search rules in
    let b : get_or c.args.from.now k 0 < 2 ^ 64 = search rules in
    subst (λ (x : ℕ). x < 2 ^ 64) (sym (c.loop-i.invariant.done k (omega arith))) (or_lt 64 _ _ a b))
