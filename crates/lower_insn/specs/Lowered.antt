-- What an instruction is lowered to: GCC Internals, "Passes and Files of the Compiler" (RTL
-- generation), "Standard Pattern Names For Generation" and "Pattern Ordering".
use Rattle.std.specs.Prelude.{◌≡◌, ◌⊎◌, ℕ, ◌+◌, Bool, true, false, List, [], ◌∷◌, ◌++◌, map, Option, Some, None, Result, Ok, Err}
use Rattle.rtx_tree.specs.declared.tree.Rtx.{Rtx}
use Rattle.rtx_tree.specs.declared.function.Insn.{Insn}
use Rattle.rtx_tree.specs.Tree.{head_of}
use Rattle.md_match.specs.Pattern.{Ops}
use Rattle.md_forms.specs.declared.form.Entry.{Entry}
pub use Rattle.form_needs.specs.Matched.{IsMatched, IsUnmatched}
use Rattle.form_needs.specs.Needs.{is_note, needs_form}
use Rattle.gen_emit.specs.declared.emission.Emission.{Emission}
use Rattle.pass_refusal.specs.declared.refusal.PassRefusal.{PassRefusal}
use Rattle.pass_refusal.specs.declared.refusal.PassRefusal.TheVariants as refusal
use Rattle.pass_refusal.specs.Refused.{unmatched_insn}
use Rattle.lower_insn.specs.declared.part.Lowered.{Lowered}
use Rattle.lower_insn.specs.declared.part.Part.{Part}
use Rattle.lower_insn.specs.declared.part.Part.TheVariants.{Lower, Emit, Emitted}
use Rattle.lower_insn.specs.declared.part.Plan.{Plan}
use Rattle.lower_insn.specs.declared.part.Uids.{Uids}
use Rattle.lower_insn.specs.Plan.{planned, emission_of}

-- a use or a clobber alone
abbrev pub is_note_tree : Rtx → Bool
is_note_tree x = is_note (head_of x).code

-- ---- the parts of a flat sequence: patterns to be lowered, forms that emit what stands for a pattern, and what was emitted. Of the first
-- two each tells whether lowering itself made the pattern; what it did not make is the instruction
-- itself.

-- the parts that stand for a pattern, by its plan
abbrev pub parts_of : Bool → Rtx → Plan → List Part
parts_of made x plan = map (Lower true) plan.before ++ (Emit made x plan.form plan.operands ∷ map (Lower true) plan.after)

-- ---- uids

-- The last of the instructions in the place of one has its uid, the others take the next ones from
-- the first new uid on. That of what stands behind so many, by what is still to be made behind it:
abbrev pub uid_at : Uids → List Part → ℕ → ℕ
uid_at uids [] before = uids.own
uid_at uids (part ∷ rest) before = uids.first + before

-- the instruction itself is shown with its own
abbrev pub shown_uid : Uids → Bool → List Part → ℕ → ℕ
shown_uid uids false rest before = uids.own
shown_uid uids true rest before = uid_at uids rest before

abbrev pub unmatched_at : Uids → Bool → List Part → ℕ → Rtx → PassRefusal
unmatched_at uids made rest before x = refusal.Unmatched (shown_uid uids made rest before) x

-- ---- what parts come to

abbrev pub Answer : Type 0
Answer = Result (List Rtx) PassRefusal

-- a sequence behind a pattern
abbrev pub behind : Rtx → Answer → Answer
behind x (Ok sequence) = Ok (x ∷ sequence)
behind x (Err e) = Err e

-- What parts come to, one behind the other, where so many instructions stand before them, and
-- pseudo registers are free from a number on: the sequence, or the first of which no form can be
-- made. A pattern that some form matches stays. Any other is made by its plan.
pub data Lowers (forms : List Entry) (uids : Uids) : List Part → ℕ → ℕ → Answer → Type 0 where
  nothing : (before next : ℕ) → Lowers forms uids [] before next (Ok [])
  stays : (made : Bool) (x : Rtx) (rest : List Part) (before next : ℕ) (answer : Answer) →
      IsMatched forms x →
      Lowers forms uids rest (before + 1) next answer → Lowers forms uids (Lower made x ∷ rest) before next (behind x answer)
  planless : (made : Bool) (x : Rtx) (rest : List Part) (before next : ℕ) → IsUnmatched forms x →
      planned forms made x next ≡ None →
      Lowers forms uids (Lower made x ∷ rest) before next (Err (unmatched_at uids made rest before x))
  made_by :
      (made : Bool) (x : Rtx) (rest : List Part) (before next : ℕ) (plan : Plan) (answer : Answer) →
      IsUnmatched forms x →
      planned forms made x next ≡ Some plan → Lowers forms uids (parts_of made x plan ++ rest) before plan.next answer →
      Lowers forms uids (Lower made x ∷ rest) before next answer
  fails : (made : Bool) (x : Rtx) (form : ℕ) (operands : Ops) (rest : List Part) (before next : ℕ) →
      emission_of forms form operands next ≡ None →
      Lowers forms uids (Emit made x form operands ∷ rest) before next (Err (unmatched_at uids made rest before x))
  emits : (made : Bool) (x : Rtx) (form : ℕ) (operands : Ops) (rest : List Part) (before next : ℕ) (e : Emission) (answer : Answer) →
      emission_of forms form operands next ≡ Some e → Lowers forms uids (map Emitted e.sequence ++ rest) before e.next answer →
      Lowers forms uids (Emit made x form operands ∷ rest) before next answer
  counts : (x : Rtx) (rest : List Part) (before next : ℕ) (answer : Answer) →
      (is_note_tree x ≡ true) ⊎ IsMatched forms x →
      Lowers forms uids rest (before + 1) next answer → Lowers forms uids (Emitted x ∷ rest) before next (behind x answer)
  unmatched : (x : Rtx) (rest : List Part) (before next : ℕ) → is_note_tree x ≡ false →
      IsUnmatched forms x →
      Lowers forms uids (Emitted x ∷ rest) before next (Err (unmatched_at uids true rest before x))

-- ---- an instruction

-- what an instruction is lowered to by a form, where it does not stay as it is
abbrev pub InsnAnswer : Type 0
InsnAnswer = Result (Option Lowered) PassRefusal

abbrev pub by_form : ℕ → Answer → InsnAnswer
by_form form (Ok sequence) = Ok (Some (record { form = form; sequence = sequence }))
by_form form (Err e) = Err e

abbrev pub uids_for : Insn → ℕ → Uids
uids_for i greatest = record { own = i.uid; first = greatest + 1 }

-- An instruction of a function that has a greatest uid, and in which pseudo registers are free from
-- a number on. One that some form matches, or that needs no form, stays.
pub data InsnLowers (forms : List Entry) (i : Insn) (greatest next : ℕ) : InsnAnswer → Type 0 where
  free : needs_form i ≡ false → InsnLowers forms i greatest next (Ok None)
  matched : needs_form i ≡ true → IsMatched forms i.pattern →
      InsnLowers forms i greatest next (Ok None)
  nameless : needs_form i ≡ true → IsUnmatched forms i.pattern →
      planned forms false i.pattern next ≡ None →
      InsnLowers forms i greatest next (Err (unmatched_insn i))
  lowered : (plan : Plan) (answer : Answer) → needs_form i ≡ true → IsUnmatched forms i.pattern →
      planned forms false i.pattern next ≡ Some plan →
      Lowers forms (uids_for i greatest) (parts_of false i.pattern plan) 0 plan.next answer → InsnLowers forms i greatest next (by_form plan.form answer)
