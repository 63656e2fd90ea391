-- What the private functions have done.
use Rattle.std.specs.Prelude.{◌≡◌, ℕ, true, List, Result, Ok, Err}
use Rattle.rtx_tree.specs.declared.function.Function.{Function}
use Rattle.rtx_tree.specs.declared.function.Insn.{Insn}
use Rattle.rtl_chain.specs.End.{IsFinished}
use Rattle.md_forms.specs.declared.form.Entry.{Entry}
use Rattle.md_desc.specs.Recog.{NoneMatches}
use Rattle.form_needs.specs.Needs.{output_facts}
use Rattle.law_frame.specs.Frame.{with_insns}
use Rattle.pass_refusal.specs.Outcome.{RefusesWith}
use Rattle.pass_refusal.specs.Refused.{unmatched_insn}
use Rattle.pass_refusal.specs.declared.refusal.PassRefusal.{PassRefusal}
use Rattle.frame.specs.Framed.{is_new, IsMatchedIfNew, AreMatched, IsFirstUnmatched}

-- the second function is the first with its finished chain
pub record Finishes (f g : Function) : Type 0 where
  pub chain : List Insn
  pub finishes : IsFinished f.insns chain
  pub is : g ≡ with_insns f chain

abbrev pub Tried : Type 0
Tried = Result (Unit {0}) PassRefusal

-- an instruction that is refused
pub record IsRefused (forms : List Entry) (first : ℕ) (i : Insn) (e : PassRefusal) : Type 0 where
  pub new : is_new first i ≡ true
  pub unmatched : NoneMatches forms output_facts i.pattern
  pub refusal_is : e ≡ unmatched_insn i

abbrev pub RefusesInsn : List Entry → ℕ → Insn → Tried → Type 0
RefusesInsn forms first i (Ok done) = ⊥
RefusesInsn forms first i (Err e) = IsRefused forms first i e

-- an instruction was tried
abbrev pub TriesInsn : List Entry → ℕ → Insn → Tried → Type 0
TriesInsn forms first i (Ok done) = IsMatchedIfNew forms first i
TriesInsn forms first i (Err e) = RefusesWith e (RefusesInsn forms first i)

-- the first of a chain that is refused
pub record IsFirstRefused (forms : List Entry) (first : ℕ) (insns : List Insn) (e : PassRefusal) : Type 0 where
  pub insn : Insn
  pub is_first : IsFirstUnmatched forms first insns insn
  pub refusal_is : e ≡ unmatched_insn insn

abbrev pub RefusesFirst : List Entry → ℕ → List Insn → Tried → Type 0
RefusesFirst forms first insns (Ok done) = ⊥
RefusesFirst forms first insns (Err e) = IsFirstRefused forms first insns e

-- a chain was tried
abbrev pub TriesAll : List Entry → ℕ → List Insn → Tried → Type 0
TriesAll forms first insns (Ok done) = AreMatched forms first insns
TriesAll forms first insns (Err e) = RefusesWith e (RefusesFirst forms first insns)
