-- What splitting leaves of a function: GCC Internals, "Defining How to Split Instructions" and
-- "Insns".
use Rattle.std.specs.Prelude.{◌≡◌, ◌⊎◌, ℕ, true, List, [], ◌∷◌, Some, slice_get}
use Rattle.rtx_tree.specs.declared.function.Insn.{Insn}
use Rattle.rtx_tree.specs.declared.function.Function.{Function}
use Rattle.md_forms.specs.declared.form.Entry.{Entry}
use Rattle.form_needs.specs.Needs.{is_kind}
use Rattle.law_insn_replaced.specs.sym_insns.Shape.{is_shaped, all_natural}
use Rattle.pass_name.specs.declared.pass.Pass.{Pass}
use Rattle.split.specs.Split.{IsUnsplit, is_admitted}

-- an instruction of a function
abbrev pub StandsIn : Function → Insn → Type 0
StandsIn f i = (place : ℕ) × (slice_get f.insns place ≡ Some i)

-- ---- no form splits an instruction any more

-- an instruction that was tried, with new pseudo registers numbered from some number on
abbrev pub IsLeft : List Entry → Pass → Insn → Type 0
IsLeft forms pass i = (next : ℕ) × IsUnsplit forms pass next i

abbrev pub AreLeft : List Entry → Pass → Function → Type 0
AreLeft forms pass f =
    (place : ℕ) (i : Insn) → slice_get f.insns place ≡ Some i → IsLeft forms pass i

-- ---- the new instructions

-- The instruction has the kind of its pattern, and the parts and modes that its codes ask for; and
-- before registers have homes it names no hard register but those of arguments.
pub record IsNew (pass : Pass) (i : Insn) : Type 0 where
  pub instruction : is_kind i.kind ≡ true
  pub shaped : is_shaped i ≡ true
  pub admitted : is_admitted pass (i.pattern ∷ []) ≡ true

-- each instruction is one of the function before, or a new one
abbrev pub AreOldOrNew : Pass → Function → Function → Type 0
AreOldOrNew pass f g = (i : Insn) → StandsIn g i → StandsIn f i ⊎ IsNew pass i

-- ---- registers

-- the number of each register is none below 0
abbrev pub AreNatural : Function → Type 0
AreNatural f = (i : Insn) → StandsIn f i → all_natural i.pattern ≡ true
