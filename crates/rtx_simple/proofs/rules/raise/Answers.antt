use Rattle.rtx_tree.specs.Tree.{kids_of}
use Rattle.rtx_simple.proofs.Kids.{first_there, first_raised}
use Rattle.rtx_simple.proofs.rules.raise.Goals as goal

pub hoist-requires : goal.hoist-requires
hoist-requires c = first_there (kids_of c.args.x.now) c.requires

pub returns : goal.returns
returns c = first_raised (kids_of c.args.x.now) c.hoist.new.x c.requires c.hoist.ensures
