-- Why no instance of an alternative is reached: GCC Internals, "Pattern Ordering" and "Multiple
-- Alternative Constraints".
use Rattle.std.specs.Prelude.{◌≡◌, ◌≢◌, ℕ, ◌+◌, ◌==◌, ℤ, Bool, true, false, not, ◌&&◌, List, [], ◌∷◌, Option, Some, None, length, map, slice_get, if◌then◌else◌}
use Rattle.std.specs.List.{list_any}
use Rattle.std.specs.Option.{option_map_or}
use Rattle.rtx_tree.specs.declared.tree.Rtx.{Rtx}
use Rattle.rtx_tree.specs.Tree.{head_of}
use Rattle.c_cond.specs.c_words.declared.head.CondHead.{CondHead}
use Rattle.c_cond.specs.c_words.declared.head.CondHead.TheVariants as head
use Rattle.c_cond.specs.declared.tree.Tree.{Tree}
use Rattle.c_cond.specs.Tree.{heads_of}
use Rattle.md_desc.specs.declared.output.Chosen.{Chosen}
use Rattle.md_desc.specs.md_forms.declared.form.Entry.{Entry}
use Rattle.md_desc.specs.md_forms.declared.form.Form.{Form}
use Rattle.md_desc.specs.md_attr.Alternatives.{form_at}
use Rattle.md_desc.specs.md_pred.Holds.{holds}
use Rattle.md_desc.specs.md_recog.Match.{is_met}
use Rattle.md_desc.specs.Recog.{IsChosen, NoneMatchesOut}
use Rattle.form_needs.specs.Needs.{output_facts}
use Rattle.lint_made.specs.declared.candidate.Candidate.{Candidate}
use Rattle.lint_made.specs.Made.{givers}
use Rattle.lint_tried.specs.declared.instance.Instance.{Instance}
use Rattle.lint_tried.specs.Trial.{Trial}
use Rattle.lint_tried.specs.Offered.{candidates_of}
use Rattle.lint_tried.specs.Tried.{pattern_of, instances_tried}
use Rattle.lint_why.specs.declared.why.Why.{Why}
use Rattle.lint_why.specs.declared.why.Why.TheVariants as why
use Rattle.lint_why.specs.Choices.{furthest}

-- ---- where there is an instance

-- another form is chosen for it at output, or another alternative, or none
pub data IsTaken (forms : List Entry) (form : ℕ) (i : Instance) : Why → Type 0 where
  by_form : (c : Chosen) → IsChosen forms output_facts i.insn.pattern c → c.form ≢ form →
      IsTaken forms form i (why.Form c.form)
  by_alternative : (c : Chosen) → IsChosen forms output_facts i.insn.pattern c →
      c.form ≡ form → IsTaken forms form i (why.Alternative c.alternative)
  by_none : NoneMatchesOut forms output_facts i.insn.pattern → IsTaken forms form i why.Nothing

-- ---- where there is none

abbrev pub is_operand : CondHead → Bool
is_operand (head.Operand n) = true
is_operand _ = false

-- a condition asks for an operand
abbrev pub asks_for_operand : Tree → Bool
asks_for_operand c = list_any is_operand (heads_of c)

-- it asks for none, and is 0
abbrev pub is_never : Trial → Bool
is_never t = not (asks_for_operand t.says.condition) && not (is_met (holds t.forms) output_facts t.says.condition [])

abbrev pub is_nothing : Option (List Candidate) → Bool
is_nothing None = false
is_nothing (Some own) = length own == 0

abbrev pub without : Rtx → Why
without p = why.Operand (head_of p).number (head_of p).name (head_of p).mode

-- the first placeholder, from a place on, that has no candidate
abbrev pub without_from : List (List Candidate) → ℕ → List Rtx → Option Why
without_from candidates at [] = None
without_from candidates at (p ∷ ps) =
    if is_nothing (slice_get candidates at) then Some (without p) else without_from candidates (at + 1) ps

abbrev pub or_choices : Trial → List (List Candidate) → Option Why → Why
or_choices t candidates (Some w) = w
or_choices t candidates None = why.Choices (furthest t candidates)

abbrev pub why_with : Trial → List (List Candidate) → Why
why_with t candidates = or_choices t candidates (without_from candidates 0 (givers t.pattern))

-- the condition is 0, an operand has no candidate, or the choices come so far
unfoldable pub why_none : Trial → List ℤ → Why
why_none t tested = if is_never t then why.Condition else why_with t (candidates_of t tested)

abbrev pub trial_with : List Entry → ℕ → ℕ → Form → Rtx → Trial
trial_with forms form alternative f pattern = record { forms = forms; form = form; alternative = alternative; says = f; pattern = pattern }

abbrev pub why_by : List Entry → List ℤ → ℕ → ℕ → Form → Option Rtx → Why
why_by forms tested form alternative f None = why.Nothing
why_by forms tested form alternative f (Some pattern) =
    why_none (trial_with forms form alternative f pattern) tested

abbrev pub why_form : List Entry → List ℤ → ℕ → ℕ → Option Form → Why
why_form forms tested form alternative None = why.Nothing
why_form forms tested form alternative (Some f) =
    why_by forms tested form alternative f (pattern_of f)

-- ---- either

abbrev pub IsWhyOf : List Entry → List ℤ → ℕ → ℕ → List Instance → Why → Type 0
IsWhyOf forms tested form alternative [] w =
    w ≡ why_form forms tested form alternative (form_at forms form)
IsWhyOf forms tested form alternative (i ∷ more) w = IsTaken forms form i w

-- why no instance of an alternative is reached, where none is, by the numbers in the tests of the
-- description: what takes the first instance, or why there is none
abbrev pub IsWhy : List Entry → List ℤ → ℕ → ℕ → Why → Type 0
IsWhy forms tested form alternative w =
    IsWhyOf forms tested form alternative (instances_tried forms tested form alternative) w
