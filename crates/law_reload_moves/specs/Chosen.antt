-- What is chosen from: GCC Internals, "RTL passes" (reload). A pattern matches an instruction with
-- its references to the frame put in, before its registers have homes.
use Rattle.std.specs.Prelude.{List}
use Rattle.law_operands_fetched.specs.rtx_tree.declared.function.Kind.{Kind}
use Rattle.law_operands_fetched.specs.rtx_tree.declared.tree.Rtx.{Rtx}
use Rattle.law_operands_fetched.specs.md_match.Pattern.{Ops}
use Rattle.law_operands_fetched.specs.assign.declared.home.HomeOf.{HomeOf}
use Rattle.law_operands_fetched.specs.assign.declared.places.Layout.{Layout}
use Rattle.law_operands_fetched.specs.reload_homes.Homes.{homed}
use Rattle.law_operands_fetched.specs.reload_operands.Changes.{whole_of}
use Rattle.law_operands_fetched.specs.reload_operands.Operands.{operands_of}
use Rattle.law_operands_fetched.specs.reload_choice.declared.given.Given.{Given}

-- a tree in a frame that a pattern matches with operands, as an instruction of a kind
abbrev pub chosen_from : List HomeOf → Layout → Kind → Rtx → Rtx → Ops → Given
chosen_from homes layout kind x pattern found = record {
  pattern = pattern;
  kind = kind;
  insn = homed homes layout x;
  operands = operands_of pattern found x (homed homes layout x) homes layout;
  whole = whole_of x (homed homes layout x);
}
