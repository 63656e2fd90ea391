use Rattle.std.proofs.Common.{◌≡◌, map, drop}
use Rattle.term_tree.specs.Tree.{trees_of}
use Rattle.term_tree.specs.Form.{all_of_width}
use Rattle.term_tree.specs.View.{tree_of}
use Rattle.term_tree.proofs.form.are_of_width.Given as goal

abbrev pub invariant-loop-part : goal.invariant-loop-part
invariant-loop-part l =
    all_of_width l.w (trees_of (map tree_of (drop l.part-index l.parts))) ≡ all_of_width l.w (trees_of (map tree_of l.parts))
