use Rattle.std.proofs.Common.{◌≡◌, ◌≤◌, refl, sym, ap, subst, arith}
use Rattle.std.specs.Prelude.{IfSome}
use Rattle.std.specs.List.{splice}
use Rattle.rtl_chain.specs.Counts.{greatest_uid, next_pseudo, instruction_count}
use Rattle.live_chain.specs.Rows.{AreRowsFor}
use Rattle.live_chain.specs.Stays.{StaysBefore}
use Rattle.live_chain.specs.machine.Whole.{with_chain}
use Rattle.live_chain.proofs.KeptLaws.{live_joined, rows_told, rows_shorter, stays_told}
use Rattle.live_chain.proofs.chain.LiveChain.fuse.Goals as goal

pub rows_put-requires-clause-shorter : goal.rows_put-requires-clause-shorter
rows_put-requires-clause-shorter c =
    rows_shorter c.args.self.now c.args.first c.args.end c.args.new c.args.rows c.requires.shorter c.requires.rows

pub invariant_of-self : goal.invariant_of-self
invariant_of-self c =
    let a = c.args in
    let was = c.self.inside in
    let f = with_chain was.frame was.insns in
    let all = c.put_within.new.self in
    let order : a.first ≤ a.end = omega (arith, c.requires.shorter) in
    let same : all ≡ splice was.insns a.first a.end a.new = c.put_within.ensures in
    let made : IfSome a.rows (AreRowsFor f a.first a.end a.new) =
    subst (λ g. IfSome a.rows (AreRowsFor g a.first a.end a.new)) (sym c.self.view_is) c.requires.rows in
    record {
      live = live_joined f (with_chain was.frame all) a.first a.end a.new a.new was.rows c.take.result c.rows_put.result a.rows
          refl c.take.ensures.value (ap (with_chain was.frame) same)
          (rows_told f a.first a.end a.new was.rows a.rows c.self.invariant.live made) c.rows_put.ensures;
      uid = subst (λ l. IfSome c.uid_put-greatest.result (λ n. n ≡ greatest_uid l)) (sym same)
          (subst (λ new. IfSome c.uid_put-greatest.result (λ n. n ≡ greatest_uid (splice was.insns a.first a.end new))) c.as_slice.ensures.value
          (c.uid_put-greatest.ensures was.insns a.first a.end order c.between-old.ensures c.self.invariant.uid));
      pseudo = subst (λ l. IfSome c.pseudo_put-next.result (λ n. n ≡ next_pseudo l)) (sym same)
          (subst (λ new. IfSome c.pseudo_put-next.result (λ n. n ≡ next_pseudo (splice was.insns a.first a.end new))) c.as_slice-2.ensures.value
          (c.pseudo_put-next.ensures was.insns a.first a.end order c.between-old.ensures c.self.invariant.pseudo));
      instructions = subst (λ l. IfSome c.count_put-count.result (λ n. n ≡ instruction_count l)) (sym same)
          (subst (λ new. IfSome c.count_put-count.result (λ n. n ≡ instruction_count (splice was.insns a.first a.end new))) c.as_slice-3.ensures.value
          (c.count_put-count.ensures was.insns a.first a.end order c.between-old.ensures c.self.invariant.instructions));
    }

pub returns-clause-stays : goal.returns-clause-stays
returns-clause-stays c = λ told.
    let a = c.args in
    let was = c.self.inside in
    let f = with_chain was.frame was.insns in
    let all = c.put_within.new.self in
    let made : IfSome a.rows (AreRowsFor f a.first a.end a.new) =
    subst (λ g. IfSome a.rows (AreRowsFor g a.first a.end a.new)) (sym c.self.view_is) c.requires.rows in
    subst (λ g. StaysBefore g (with_chain was.frame all) a.first) c.self.view_is
    (subst (λ g. StaysBefore f g a.first) (sym (ap (with_chain was.frame) c.put_within.ensures))
    (stays_told f a.first a.end a.new a.new a.rows c.is_same_before-same.result refl c.is_same_before-same.ensures made told))
