use Rattle.std.proofs.Common.{◌≡◌, ◌≤◌, length, take}
use Rattle.md_iter.specs.Expansion.{forms_with}
use Rattle.rtx_tree.specs.Limit.{most_forms}
use Rattle.md_iter.proofs.expand.expand_trees.Given as goal

abbrev pub invariant-loop-at : goal.invariant-loop-at
invariant-loop-at l = record {
  forms : l.forms ≡ forms_with l.definitions (take l.at l.trees);
  few : length l.forms ≤ most_forms;
}
