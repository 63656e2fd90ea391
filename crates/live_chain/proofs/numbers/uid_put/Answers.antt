use Rattle.std.proofs.Common.{refl, rules}
use Rattle.live_chain.proofs.NumberLaws.{known_after}
use Rattle.live_chain.proofs.numbers.uid_put.Goals as goal

pub returns : goal.returns
returns c = λ xs first end order window known.
    known_after (λ i. i.uid) xs xs c.in_ok-old.old.now c.args.new.now c.args.new.now _ first end c.greatest_uid.result c.greatest_uid-2.result
    c.args.greatest c.uid_after.result order refl (search rules) refl refl c.greatest_uid.ensures c.greatest_uid-2.ensures known c.uid_after.ensures.after
