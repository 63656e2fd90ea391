-- A function in which some form matches each instruction that needs one: GCC Internals, "Passes and
-- Files of the Compiler" (RTL generation) and "Standard Pattern Names For Generation".
use Rattle.std.specs.Prelude.{◌≡◌, ℕ, ◌+◌, ◌≤◌, true, List, length, Some, None, Result, Ok, Err, slice_get}
use Rattle.std.specs.List.{All}
use Rattle.rtx_tree.specs.declared.function.Function.{Function}
use Rattle.rtx_tree.specs.declared.function.Insn.{Insn}
use Rattle.rtl_chain.specs.Counts.{greatest_uid, next_pseudo}
use Rattle.md_forms.specs.declared.form.Entry.{Entry}
use Rattle.md_forms.specs.Forms.{names_of}
use Rattle.lower_insn.specs.form_needs.Needs.{name_at, needs_form}
use Rattle.pass_refusal.specs.declared.refusal.PassRefusal.{PassRefusal}
use Rattle.insn_replace.specs.Replace.{ReplacedComes}
use Rattle.lower_insn.specs.declared.part.Lowered.{Lowered}
use Rattle.lower_insn.specs.Lowered.{InsnAnswer, InsnLowers, IsMatched}

-- a function, or a refusal
abbrev pub Answer : Type 0
Answer = Result Function PassRefusal

-- an instruction of a function
abbrev pub LowersIn : List Entry → Function → Insn → InsnAnswer → Type 0
LowersIn forms f i answer = InsnLowers forms i (greatest_uid f.insns) (next_pseudo f.insns) answer

-- the name of the form by which an instruction is lowered
abbrev pub rule_of : List Entry → Lowered → List ℕ
rule_of forms l = name_at (names_of forms) l.form

-- What a function comes to from a place on. An instruction stays, or a sequence stands in its place
-- that is equated with it. What was made is not looked at again.
pub data LowerFrom (forms : List Entry) : Function → ℕ → Answer → Type 0 where
  done : (f : Function) (place : ℕ) → length f.insns ≤ place → LowerFrom forms f place (Ok f)
  stays : (f : Function) (place : ℕ) (i : Insn) (answer : Answer) →
      slice_get f.insns place ≡ Some i → LowersIn forms f i (Ok None) →
      LowerFrom forms f (place + 1) answer → LowerFrom forms f place answer
  unmatched : (f : Function) (place : ℕ) (i : Insn) (e : PassRefusal) →
      slice_get f.insns place ≡ Some i → LowersIn forms f i (Err e) →
      LowerFrom forms f place (Err e)
  differs : (f : Function) (place : ℕ) (i : Insn) (l : Lowered) (e : PassRefusal) →
      slice_get f.insns place ≡ Some i → LowersIn forms f i (Ok (Some l)) →
      ReplacedComes f place i (rule_of forms l) l.sequence (Err e) → LowerFrom forms f place (Err e)
  replaced : (f : Function) (place : ℕ) (i : Insn) (l : Lowered) (g : Function) (answer : Answer) →
      slice_get f.insns place ≡ Some i →
      LowersIn forms f i (Ok (Some l)) → ReplacedComes f place i (rule_of forms l) l.sequence (Ok g) →
      LowerFrom forms g (place + length l.sequence) answer → LowerFrom forms f place answer

-- from its beginning
abbrev pub LowerComes : List Entry → Function → Answer → Type 0
LowerComes forms f answer = LowerFrom forms f 0 answer

-- ---- what it is then

-- some form matches an instruction that needs one
abbrev pub IsMatchedInsn : List Entry → Insn → Type 0
IsMatchedInsn forms i = needs_form i ≡ true → IsMatched forms i.pattern

-- some form matches each instruction of a function that needs one
abbrev pub AreMatched : List Entry → Function → Type 0
AreMatched forms f = All (IsMatchedInsn forms) f.insns
