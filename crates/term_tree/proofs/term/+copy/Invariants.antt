use Rattle.std.proofs.Common.{◌≡◌, take}
use Rattle.term_tree.proofs.term.+copy.Given as goal

abbrev pub invariant-copy_atoms-loop-atom : goal.invariant-copy_atoms-loop-atom
invariant-copy_atoms-loop-atom l = l.copies ≡ take l.atom-index l.atom-items

abbrev pub invariant-copy_parts-loop-part : goal.invariant-copy_parts-loop-part
invariant-copy_parts-loop-part l = l.copies ≡ take l.part-index l.part-items
