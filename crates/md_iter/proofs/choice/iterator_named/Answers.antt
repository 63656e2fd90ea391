use Rattle.std.proofs.Common.{◌∙◌}
use Rattle.md_iter.proofs.KindLaws.{first_same}
use Rattle.md_iter.proofs.choice.iterator_named.Goals as goal

pub returns : goal.returns
returns c = c.first.ensures ∙ first_same (λ i. i.kind) (λ i. i.name) c.args.kind c.args.name.now c.args.iterators.now
