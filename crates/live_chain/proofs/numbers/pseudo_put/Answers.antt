use Rattle.std.proofs.Common.{refl, rules}
use Rattle.rtl_chain.specs.Counts.{next_pseudo_in}
use Rattle.live_chain.proofs.NumberLaws.{known_after}
use Rattle.live_chain.proofs.numbers.pseudo_put.Goals as goal

pub returns : goal.returns
returns c = λ xs first end order window known.
    known_after (λ i. next_pseudo_in i.pattern) xs xs c.in_ok-old.old.now c.args.new.now c.args.new.now _ first end c.next_pseudo.result c.next_pseudo-2.result
    c.args.next c.pseudo_after.result order refl (search rules) refl refl c.next_pseudo.ensures c.next_pseudo-2.ensures known c.pseudo_after.ensures.after
