use Rattle.std.proofs.Common.{ap, ◌∙◌, map}
use Rattle.term_tree.specs.View.{tree_of}
use Rattle.term_sums.proofs.EditLaws.{map-remove}
use Rattle.term_sums.proofs.joints.remove_at.Goals as goal

pub returns : goal.returns
returns c = ap (map tree_of) c.remove.ensures.items ∙ map-remove tree_of c.args.parts.now.items c.args.place
