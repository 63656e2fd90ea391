-- Instructions split by a description: GCC Internals, "Defining How to Split Instructions". Each
-- instruction that a split form matches is replaced by what the form emits, and the new
-- instructions are tried again.
use Rattle.std.specs.Prelude.{◌≡◌, ℕ, ◌+◌, ◌<◌, ◌≤◌, ◌||◌, Bool, true, false, if◌then◌else◌, List, [], ◌∷◌, ◌++◌, length, replicate, Option, Some, None, option_and_then, slice_get, Result, Ok, Err}
use Rattle.rtx_tree.specs.declared.tree.Rtx.{Rtx}
use Rattle.rtx_tree.specs.declared.limit.Limit.TheVariants.{SplitDepth}
use Rattle.rtx_tree.specs.declared.function.Insn.{Insn}
use Rattle.rtx_tree.specs.declared.function.Function.{Function}
use Rattle.rtl_chain.specs.Counts.{next_pseudo}
use Rattle.c_eval.specs.declared.facts.Facts.{Facts}
use Rattle.md_match.specs.Pattern.{Ops}
use Rattle.md_forms.specs.declared.form.Entry.{Entry}
use Rattle.md_forms.specs.Forms.{names_of}
use Rattle.md_desc.specs.md_pred.Holds.{holds}
use Rattle.md_recog.specs.declared.half.Half.TheVariants as half
use Rattle.md_recog.specs.Recog.{MatchesAt}
use Rattle.form_needs.specs.Needs.{is_kind, lower_facts, output_facts, name_at}
use Rattle.gen_emit.specs.declared.emission.Emission.{Emission}
use Rattle.md_emit.specs.Emitted.{emitted_by, keeps_to_arguments}
use Rattle.law_insn_replaced.specs.insn_replace.Replace.{ReplacedComes}
use Rattle.law_insn_replaced.specs.pass_refusal.declared.refusal.PassRefusal.{PassRefusal}
use Rattle.law_insn_replaced.specs.pass_refusal.declared.refusal.PassRefusal.TheVariants as refusal
use Rattle.pass_name.specs.declared.pass.Pass.{Pass}
use Rattle.pass_name.specs.declared.pass.Pass.TheVariants.{Read, Lower, Reuse, Combine, Split1, Reload, Frame, Split2, Peephole2, Schedule, Output}
use Rattle.rtx_tree.specs.Limit.{most_splits}

-- ---- what forms make of an instruction

-- whether registers have homes when a pass begins: reload gives them
abbrev pub has_homes : Pass → Bool
has_homes Read = false
has_homes Lower = false
has_homes Reuse = false
has_homes Combine = false
has_homes Split1 = false
has_homes Reload = false
has_homes Frame = true
has_homes Split2 = true
has_homes Peephole2 = true
has_homes Schedule = true
has_homes Output = true

-- what conditions know at a pass
abbrev pub facts_of : Pass → Facts
facts_of pass = if has_homes pass then output_facts else lower_facts

-- before registers have homes, a sequence names no hard registers but those of arguments
abbrev pub is_admitted : Pass → List Rtx → Bool
is_admitted pass sequence = has_homes pass || keeps_to_arguments sequence

-- the sequence that is emitted, if it is admitted
abbrev pub admitted : Pass → Emission → Option (List Rtx)
admitted pass e = if is_admitted pass e.sequence then Some e.sequence else None

-- what a form puts in the place of an instruction that it matches with operands; nothing where it
-- fails
abbrev pub given_by : List Entry → Pass → ℕ → ℕ → Ops → Option (List Rtx)
given_by forms pass next form operands =
    option_and_then (admitted pass) (emitted_by forms (facts_of pass) form operands next)

-- A form splits an instruction into a sequence: its split half matches with operands, and the form
-- does not fail. New pseudo registers are numbered from one on. Labels and barriers are never
-- split; a use or a clobber alone may be.
pub record Splits (forms : List Entry) (pass : Pass) (next : ℕ) (i : Insn) (form : ℕ) (sequence : List Rtx) : Type 0 where
  pub instruction : is_kind i.kind ≡ true
  pub operands : Ops
  pub matches :
      MatchesAt (holds forms) (facts_of pass) half.Split (i.pattern ∷ []) forms form operands
  pub gives : given_by forms pass next form operands ≡ Some sequence

-- the first form that does
pub record IsSplit (forms : List Entry) (pass : Pass) (next : ℕ) (i : Insn) (form : ℕ) (sequence : List Rtx) : Type 0 where
  pub splits : Splits forms pass next i form sequence
  pub first : (other : ℕ) (otherwise : List Rtx) → Splits forms pass next i other otherwise →
      form ≤ other

-- no form does
abbrev pub IsUnsplit : List Entry → Pass → ℕ → Insn → Type 0
IsUnsplit forms pass next i =
    (form : ℕ) (sequence : List Rtx) → ¬ Splits forms pass next i form sequence

-- ---- functions

abbrev pub too_deep : PassRefusal
too_deep = refusal.Limit SplitDepth (most_splits + 1)

abbrev pub Answer : Type 0
Answer = Result Function PassRefusal

-- What a function comes to from a place on, where for each instruction from there on is said how
-- many splits it follows from. An instruction that no form splits stays. Each other is replaced by
-- the sequence of the first that does, where that is equated with it over what is live behind, and
-- what stands there then is tried in its turn.
pub data SplitFrom (forms : List Entry) (pass : Pass) : List ℕ → Function → ℕ → Answer → Type 0 where
  done : (f : Function) (place : ℕ) → SplitFrom forms pass [] f place (Ok f)
  stays : (depth : ℕ) (depths : List ℕ) (f : Function) (place : ℕ) (i : Insn) (answer : Answer) →
      slice_get f.insns place ≡ Some i → IsUnsplit forms pass (next_pseudo f.insns) i →
      SplitFrom forms pass depths f (place + 1) answer → SplitFrom forms pass (depth ∷ depths) f place answer
  deep : (depth : ℕ) (depths : List ℕ) (f : Function) (place : ℕ) (i : Insn) (form : ℕ) (sequence : List Rtx) →
      slice_get f.insns place ≡ Some i → IsSplit forms pass (next_pseudo f.insns) i form sequence → most_splits ≤ depth →
      SplitFrom forms pass (depth ∷ depths) f place (Err too_deep)
  refused : (depth : ℕ) (depths : List ℕ) (f : Function) (place : ℕ) (i : Insn) (form : ℕ) (sequence : List Rtx) (e : PassRefusal) →
      slice_get f.insns place ≡ Some i → IsSplit forms pass (next_pseudo f.insns) i form sequence → depth < most_splits →
      ReplacedComes f place i (name_at (names_of forms) form) sequence (Err e) → SplitFrom forms pass (depth ∷ depths) f place (Err e)
  split : (depth : ℕ) (depths : List ℕ) (f g : Function) (place : ℕ) (i : Insn) (form : ℕ) (sequence : List Rtx) (answer : Answer) →
      slice_get f.insns place ≡ Some i → IsSplit forms pass (next_pseudo f.insns) i form sequence → depth < most_splits →
      ReplacedComes f place i (name_at (names_of forms) form) sequence (Ok g) →
      SplitFrom forms pass (replicate (length sequence) (depth + 1) ++ depths) g place answer → SplitFrom forms pass (depth ∷ depths) f place answer

-- what a function comes to
abbrev pub SplitComes : List Entry → Pass → Function → Answer → Type 0
SplitComes forms pass f answer = SplitFrom forms pass (replicate (length f.insns) 0) f 0 answer
