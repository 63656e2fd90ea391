use Rattle.std.proofs.Common.{◌∙◌}
use Rattle.md_iter.proofs.KindLaws.{first_same}
use Rattle.md_iter.proofs.attribute.attribute_named.Goals as goal

pub returns : goal.returns
returns c = c.first.ensures ∙ first_same (λ a. a.kind) (λ a. a.name) c.args.kind c.args.name.now c.args.attributes.now
