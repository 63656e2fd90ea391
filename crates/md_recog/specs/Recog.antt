-- The first form of a description that matches instructions: GCC Internals, "Interdependence of
-- Patterns" and "Pattern Ordering". A define_insn_and_split has two halves ("Defining How to Split
-- Instructions"), and a define_peephole2 has a window ("RTL to RTL Peephole Optimizers").
use Rattle.std.specs.Prelude.{◌≡◌, ℕ, ◌≤◌, ◌<◌, Bool, true, false, not, List, filter, Some, Ok, slice_get}
use Rattle.rtx_tree.specs.declared.code.Code.TheVariants.{MatchScratch}
use Rattle.rtx_tree.specs.declared.tree.Rtx.{Rtx}
use Rattle.c_eval.specs.declared.facts.Facts.{Facts}
use Rattle.c_eval.specs.Value.{is_a}
use Rattle.md_match.specs.Pattern.{Ops}
use Rattle.md_recog.specs.Match.{Accepts, IsMatch}
use Rattle.md_forms.specs.md_draft.declared.head.FormHead.{FormHead}
use Rattle.md_forms.specs.md_draft.declared.head.FormHead.TheVariants as head
use Rattle.md_forms.specs.declared.form.Form.{Form}
use Rattle.md_forms.specs.declared.form.Entry.{Entry}
use Rattle.c_cond.specs.declared.tree.Tree.{Tree}
use Rattle.md_recog.specs.declared.half.Half.{Half}
use Rattle.md_recog.specs.declared.half.Half.TheVariants as half
use Rattle.md_recog.specs.declared.recog.FormMatch.{FormMatch}

-- whether a head defines an instruction
abbrev pub is_instruction : FormHead → Bool
is_instruction head.Insn = true
is_instruction head.InsnAndSplit = true
is_instruction _ = false

-- whether a head defines a split
abbrev pub is_split : FormHead → Bool
is_split head.Split = true
is_split head.InsnAndSplit = true
is_split _ = false

-- whether a head defines a window of instructions that others are put in the place of
abbrev pub is_peephole : FormHead → Bool
is_peephole head.Peephole2 = true
is_peephole _ = false

-- ---- the half of a form that is asked for

-- whether a form has a half, by its head
abbrev pub has_half : Half → FormHead → Bool
has_half half.Insn h = is_instruction h
has_half half.Split h = is_split h
has_half half.Window h = is_peephole h

-- the condition of a split is that of the split half, where there are two
abbrev pub split_condition : FormHead → Form → Tree
split_condition head.InsnAndSplit f = f.split_condition
split_condition _ f = f.condition

abbrev pub condition_of : Half → Form → Tree
condition_of half.Insn f = f.condition
condition_of half.Split f = split_condition f.head f
condition_of half.Window f = f.condition

-- what asks for a scratch register in a window, and is no instruction of it
abbrev pub is_scratch : Rtx → Bool
is_scratch p = is_a MatchScratch p

-- the instructions of a window, of its elements
abbrev pub window_of : List Rtx → List Rtx
window_of ps = filter (λ p. not (is_scratch p)) ps

-- the patterns of a half, one for each instruction
abbrev pub patterns_of : Half → Form → List Rtx
patterns_of half.Insn f = f.patterns
patterns_of half.Split f = f.patterns
patterns_of half.Window f = window_of f.patterns

-- ---- matches

-- What a form says in a half matches instructions with these operands: it has the half, and the
-- half's patterns with its condition match.
pub record FormMatches (accepts : Accepts) (facts : Facts) (asked : Half) (insns : List Rtx) (form : Form) (operands : Ops) : Type 0 where
  pub has : has_half asked form.head ≡ true
  pub matches : IsMatch accepts facts (patterns_of asked form) (condition_of asked form) insns operands

-- a form that is set aside never matches
pub record EntryMatches (accepts : Accepts) (facts : Facts) (asked : Half) (insns : List Rtx) (entry : Entry) (operands : Ops) : Type 0 where
  pub says : Form
  pub accepted : entry.form ≡ Ok says
  pub matches : FormMatches accepts facts asked insns says operands

-- the form with an index matches instructions with these operands
pub record MatchesAt (accepts : Accepts) (facts : Facts) (asked : Half) (insns : List Rtx) (forms : List Entry) (form : ℕ) (operands : Ops) : Type 0 where
  pub entry : Entry
  pub at : slice_get forms form ≡ Some entry
  pub matches : EntryMatches accepts facts asked insns entry operands

-- a match is of the form with an index
pub record MatchesHere (accepts : Accepts) (facts : Facts) (asked : Half) (insns : List Rtx) (forms : List Entry) (form : ℕ) (m : FormMatch) : Type 0 where
  pub is : m.form ≡ form
  pub matches : MatchesAt accepts facts asked insns forms form m.operands

-- no form from one index on and before another matches
abbrev pub NoneBetween : Accepts → Facts → Half → List Rtx → List Entry → ℕ → ℕ → Type 0
NoneBetween accepts facts asked insns forms from to =
    (form : ℕ) → from ≤ form → form < to → (operands : Ops) →
    MatchesAt accepts facts asked insns forms form operands → ⊥

-- The first match from an index on: the form matches with these operands, and no form before it
-- does.
pub record IsFirst (accepts : Accepts) (facts : Facts) (asked : Half) (insns : List Rtx) (forms : List Entry) (from : ℕ) (m : FormMatch) : Type 0 where
  pub behind : from ≤ m.form
  pub matches : MatchesAt accepts facts asked insns forms m.form m.operands
  pub first : NoneBetween accepts facts asked insns forms from m.form
