-- What a description makes of an instruction: GCC Internals, "Pattern Ordering", "Multiple
-- Alternative Constraints" and "Disabling insn alternatives using the enabled attribute".
use Rattle.std.specs.Prelude.{◌≡◌, ℕ, ◌<◌, Bool, true, false, not, ◌&&◌, List, [], ◌∷◌, Result, Ok, Err, slice_get}
use Rattle.std.specs.Option.{option_map_or}
use Rattle.rtx_tree.specs.declared.tree.Rtx.{Rtx}
use Rattle.c_eval.specs.declared.facts.Facts.{Facts}
use Rattle.md_text.specs.declared.template.Template.{Template}
use Rattle.md_text.specs.declared.template.Template.TheVariants as template
use Rattle.md_match.specs.Pattern.{Ops}
use Rattle.md_forms.specs.md_pattern.declared.reason.Reason.{Reason}
use Rattle.md_forms.specs.declared.form.Form.{Form}
use Rattle.md_forms.specs.declared.form.Entry.{Entry}
use Rattle.md_constr.specs.md_attr.Alternatives.{alternatives_of}
use Rattle.md_constr.specs.md_attr.Values.{is_enabled}
use Rattle.md_pred.specs.Holds.{holds}
use Rattle.md_constr.specs.Fits.{fits}
use Rattle.md_recog.specs.declared.half.Half.TheVariants as half
use Rattle.md_recog.specs.Recog as recog
use Rattle.md_recog.specs.declared.recog.FormMatch.{FormMatch}
use Rattle.md_desc.specs.declared.output.Chosen.{Chosen}

-- the form with an index of a description matches an instruction with these operands
abbrev pub MatchesAt : List Entry → Facts → Rtx → ℕ → Ops → Type 0
MatchesAt forms facts insn form operands =
    recog.MatchesAt (holds forms) facts half.Insn (insn ∷ []) forms form operands

-- the first form from an index on that matches
abbrev pub IsFirst : List Entry → Facts → Rtx → ℕ → FormMatch → Type 0
IsFirst forms facts insn from m =
    recog.IsFirst (holds forms) facts half.Insn (insn ∷ []) forms from m

-- no form matches
abbrev pub NoneMatches : List Entry → Facts → Rtx → Type 0
NoneMatches forms facts insn =
    (form : ℕ) (operands : Ops) → MatchesAt forms facts insn form operands → ⊥

-- ---- at output

-- an alternative can be used where it is enabled and the operands fit it
abbrev pub is_usable : List Entry → ℕ → Ops → ℕ → Bool
is_usable forms form operands alternative =
    is_enabled forms form alternative && fits forms (holds forms) form alternative operands

-- the lowest alternative of a form that can be used with operands
pub record IsLowest (forms : List Entry) (form : ℕ) (operands : Ops) (alternative : ℕ) : Type 0 where
  pub below : alternative < alternatives_of forms form
  pub usable : is_usable forms form operands alternative ≡ true
  pub lower : (other : ℕ) → other < alternative → is_usable forms form operands other ≡ false

-- `#`: the form is never printed, but split
abbrev pub is_only_split : Template → Bool
is_only_split template.Split = true
is_only_split _ = false

abbrev pub is_printed_as : Result Form Reason → Bool
is_printed_as (Ok f) = not (is_only_split f.template)
is_printed_as (Err r) = false

abbrev pub is_printed_by : Entry → Bool
is_printed_by e = is_printed_as e.form

abbrev pub is_printed : List Entry → ℕ → Bool
is_printed forms form = option_map_or is_printed_by (slice_get forms form) false

-- A form counts as matching at output where it matches, is printed, and has an alternative that can
-- be used; the lowest such is taken.
pub record MatchesOut (forms : List Entry) (facts : Facts) (insn : Rtx) (form : ℕ) (operands : Ops) (alternative : ℕ) : Type 0 where
  pub matches : MatchesAt forms facts insn form operands
  pub printed : is_printed forms form ≡ true
  pub lowest : IsLowest forms form operands alternative

-- no form before an index counts at output
abbrev pub NoneOutBefore : List Entry → Facts → Rtx → ℕ → Type 0
NoneOutBefore forms facts insn before =
    (form : ℕ) → form < before → (operands : Ops) (alternative : ℕ) →
    MatchesOut forms facts insn form operands alternative → ⊥

-- the first form that counts as matching at output
pub record IsChosen (forms : List Entry) (facts : Facts) (insn : Rtx) (c : Chosen) : Type 0 where
  pub matches : MatchesOut forms facts insn c.form c.operands c.alternative
  pub first : NoneOutBefore forms facts insn c.form

-- no form counts at output
abbrev pub NoneMatchesOut : List Entry → Facts → Rtx → Type 0
NoneMatchesOut forms facts insn =
    (form : ℕ) (operands : Ops) (alternative : ℕ) →
    MatchesOut forms facts insn form operands alternative → ⊥
