-- Steps of the code, for the contracts of private functions alone.
use Rattle.std.specs.Prelude.{◌≡◌, ℕ, true, List, [], ◌∷◌, length}
use Rattle.rtx_tree.specs.declared.tree.Rtx.{Rtx}
use Rattle.c_eval.specs.declared.facts.Facts.{Facts}
use Rattle.md_forms.specs.declared.form.Entry.{Entry}
use Rattle.md_pred.specs.Holds.{holds}
use Rattle.md_recog.specs.declared.half.Half.TheVariants as half
use Rattle.md_recog.specs.Recog as recog
use Rattle.md_recog.specs.declared.recog.FormMatch.{FormMatch}
use Rattle.md_desc.specs.declared.output.Chosen.{Chosen}
use Rattle.md_desc.specs.Recog.{IsLowest, is_printed}

-- no form from an index on matches
abbrev pub NoneBehind : List Entry → Facts → Rtx → ℕ → Type 0
NoneBehind forms facts insn from =
    recog.NoneBetween (holds forms) facts half.Insn (insn ∷ []) forms from (length forms)

-- a match counts at output, with the lowest alternative that can be used
pub record Counts (forms : List Entry) (m : FormMatch) (c : Chosen) : Type 0 where
  pub form_is : c.form ≡ m.form
  pub operands_are : c.operands ≡ m.operands
  pub printed : is_printed forms m.form ≡ true
  pub lowest : IsLowest forms m.form m.operands c.alternative
