-- What the rest makes of the trees so far is what all make.
use Rattle.std.proofs.Common.{◌≡◌, [], drop}
use Rattle.plain_held.specs.Rows.{grown_trees}
use Rattle.plain_held.proofs.trees.trees_of.Given as goal

abbrev pub invariant-loop-node : goal.invariant-loop-node
invariant-loop-node l = grown_trees l.trees.items (drop l.node-index l.nodes) ≡ grown_trees [] l.nodes
