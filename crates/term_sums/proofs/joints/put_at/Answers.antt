use Rattle.std.proofs.Common.{ap, ◌∙◌, map}
use Rattle.term_tree.specs.View.{tree_of}
use Rattle.term_sums.proofs.EditLaws.{map-insert}
use Rattle.term_sums.proofs.joints.put_at.Goals as goal

pub returns : goal.returns
returns c = ap (map tree_of) c.in_ok-insert.ensures.items ∙ map-insert tree_of c.args.parts.now.items c.args.place c.args.t
