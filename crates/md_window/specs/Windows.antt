-- The windows of forms: GCC Internals, "RTL to RTL Peephole Optimizers".
use Rattle.std.specs.Prelude.{ℕ, List, length, Result, Ok, Err, slice_get}
use Rattle.std.specs.Option.{option_map_or}
use Rattle.md_pattern.specs.declared.reason.Reason.{Reason}
use Rattle.md_forms.specs.declared.form.Form.{Form}
use Rattle.md_forms.specs.declared.form.Entry.{Entry}
use Rattle.rtx_tree.specs.declared.tree.Rtx.{Rtx}
use Rattle.c_eval.specs.declared.facts.Facts.{Facts}
use Rattle.md_match.specs.Pattern.{Ops}
use Rattle.md_recog.specs.Match.{Accepts}
use Rattle.md_recog.specs.declared.half.Half.TheVariants as half
use Rattle.md_recog.specs.Recog.{window_of, EntryMatches, MatchesAt}

abbrev pub size_in : Result Form Reason → ℕ
size_in (Ok form) = length (window_of form.patterns)
size_in (Err reason) = 0

-- how many instructions the window of the form with an index has
abbrev pub window_size : List Entry → ℕ → ℕ
window_size forms form = option_map_or (λ e. size_in e.form) (slice_get forms form) 0

-- a form's window does not match instructions, whatever predicates accept and conditions know
abbrev pub NeverMatches : List Rtx → Entry → Type 0
NeverMatches insns entry =
    (accepts : Accepts) (facts : Facts) (operands : Ops) →
    EntryMatches accepts facts half.Window insns entry operands → ⊥

-- that of the form with an index does not
abbrev pub NeverMatchesAt : List Entry → List Rtx → ℕ → Type 0
NeverMatchesAt forms insns form =
    (accepts : Accepts) (facts : Facts) (operands : Ops) →
    MatchesAt accepts facts half.Window insns forms form operands → ⊥
