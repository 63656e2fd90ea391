use Rattle.std.proofs.Common.{◌≡◌, drop}
use Rattle.std.specs.List.{list_all}
use Rattle.rtl_func.specs.machine.NodeRules.{nodes_keep}
use Rattle.rtl_func.proofs.nodes.+nodes_keep.Given as goal

abbrev pub invariant-loop-kid : goal.invariant-loop-kid
invariant-loop-kid l = list_all (nodes_keep l.rule l.f) (drop l.kid-index l.kid-items) ≡ nodes_keep l.rule l.f l.x
