use Rattle.std.proofs.Common.{◌∙◌, ap, ◌++◌, [], ◌∷◌, arith}
use Rattle.rtx_tree.specs.declared.tree.Rtx.{Rtx}
use Rattle.law_frame.specs.Frame.{plain_with}
use Rattle.frame.proofs.Pushes.{put_more}
use Rattle.frame.proofs.insns.add_plain.Goals as goal

pub loop-pattern-preserved : goal.loop-pattern-preserved
loop-pattern-preserved c = record {
  put = put_more c.args.uid c.args.patterns.now c.loop-pattern.pattern-index c.pattern-item.result c.args.insns.now c.loop-pattern.insns
      c.push.new.self c.loop-pattern.next c.loop-pattern-test.true c.pattern-item.is c.loop-pattern.invariant.put
      c.loop-pattern.invariant.number
      (c.in_ok-push.ensures.ok ∙ ap (λ i. c.loop-pattern.insns ++ i ∷ [])
      (c.plain_with.ensures ∙ ap (λ (x : Rtx). plain_with c.loop-pattern.next x) c.in_ok-copy.ensures));
  number = let number = c.loop-pattern.invariant.number in let next = c.in_ok-next.ensures in omega (arith, number, next);
}
