use Rattle.std.proofs.Common.{◌+◌, [], ◌∷◌, length, sym, ap, subst, ◌∙◌}
use Rattle.std.proofs.lemmas.List.{length-append}
use Rattle.gen_emit.specs.machine.Layout.{AreStarts, IsBefore}
use Rattle.gen_emit.proofs.Starts.{starts_none, start_of, starts_more, all_starts}
use Rattle.gen_emit.proofs.layout.starts_of.Goals as goal

pub loop-at-init : goal.loop-at-init
loop-at-init c = record { are = subst (AreStarts c.args.heads.now) (sym c.new-starts.ensures) (starts_none c.args.heads.now); long = ap length c.new-starts.ensures }

pub back-start-requires-clause-starts : goal.back-start-requires-clause-starts
back-start-requires-clause-starts c = subst (AreStarts c.args.heads.now) (sym c.as_slice.ensures.value) c.loop-at.invariant.are

pub loop-at-preserved : goal.loop-at-preserved
loop-at-preserved c = record {
  are = subst (AreStarts c.args.heads.now) (sym c.in_ok-push.ensures.ok) (starts_more c.args.heads.now c.loop-at.starts c.back-start.result c.loop-at.invariant.are
      (subst (λ n. IsBefore c.args.heads.now (n + 1) c.back-start.result) (sym c.loop-at.invariant.long)
      (start_of c.args.heads.now c.loop-at.at c.back-start.result c.size_of.result c.index-heads-at.result c.loop-at-test.true c.index-heads-at.is c.size_of.ensures.value (record { back = c.back-start.ensures.back; trees = c.back-start.ensures.trees }))));
  long = ap length c.in_ok-push.ensures.ok ∙ (length-append c.loop-at.starts (c.back-start.result ∷ []) ∙ ap (λ n. n + 1) c.loop-at.invariant.long);
}

pub returns : goal.returns
returns c = all_starts c.args.heads.now c.loop-at.starts c.loop-at.at c.loop-at.invariant.are c.loop-at.invariant.long c.loop-at.auto.at-end c.loop-at-test.false
