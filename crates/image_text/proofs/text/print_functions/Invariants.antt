use Rattle.std.proofs.Common.{◌≡◌, ◌++◌, drop}
use Rattle.rv_image.specs.Image.{first_entry}
use Rattle.image_text.specs.Text.{lines_from}
use Rattle.image_text.proofs.text.print_functions.Given as goal

abbrev pub invariant-loop-entry : goal.invariant-loop-entry
invariant-loop-entry l = l.out.items ++ lines_from l.address (drop l.entry-index l.entries) l.rest ≡ l.initial.out.items ++ lines_from first_entry l.entries l.words
