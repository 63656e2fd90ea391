-- Two instructions in the place of one, of which the first sets a register that nothing behind looks
-- at: GCC Internals, "Defining RTL Sequences for Code Generation".
use Rattle.std.specs.Prelude.{◌≡◌, ℕ, suc, ◌<◌, true, false, List, [], ◌∷◌, ◌++◌, Some}
use Rattle.std.specs.List.{AllByRecursion}
use Rattle.rtx_tree.specs.RegSet.{has_reg}
use Rattle.rtx_tree.specs.Registers.{virtual_stack_vars}
use Rattle.rtx_tree.specs.declared.function.Insn.{Insn}
use Rattle.rtx_tree.specs.declared.function.Kind.TheVariants.{Plain, Jump}
use Rattle.term_tree.specs.Tree.{Tree}
use Rattle.term_tree.specs.Small.{is_small}
use Rattle.sym_state.specs.State.{Need, State, start, needs_at, is_within}
use Rattle.sym_state.specs.State.{Jump as Leads}
use Rattle.sym_state.specs.Registers.{changed}
use Rattle.sym_insns.specs.Effects.{Effected, Sets, effects_of, make, after_jump}
use Rattle.sym_insns.specs.Shape.{fits_kind}
use Rattle.sym_diff.specs.Compared.{covers}
use Rattle.equate.specs.Side.{Insns}
use Rattle.equate.specs.Equated.{Equated}

-- what is needed can be had: it is no register of which too few bits are left
abbrev pub CanBeHad : Need → Type 0
CanBeHad n = covers n n ≡ true

-- the first of two sets register k + 1 to a term, and then the second has the one effect that a third
-- has alone
pub record IsSetBefore (k : ℕ) (t : Tree) (e : Effected) (i first second : Insn) : Type 0 where
  pub plain : i.kind ≡ Plain
  pub first_plain : first.kind ≡ Plain
  pub second_plain : second.kind ≡ Plain
  pub fits : fits_kind i.kind i true ≡ true
  pub first_fits : fits_kind first.kind first false ≡ true
  pub second_fits : fits_kind second.kind second true ≡ true
  pub sets : effects_of [] [] first.pattern ≡ record { effect = Sets (suc k) t; needs = [] } ∷ []
  pub alone : effects_of [] [] i.pattern ≡ e ∷ []
  pub behind : effects_of (changed (suc k) (Some t) ∷ []) [] second.pattern ≡ e ∷ []
  pub had : AllByRecursion CanBeHad e.needs
  pub small_value : is_small t ≡ true
  pub small : is_within (make 0 e start) ≡ true

-- what a jump leaves of a state: where it leads, and what it needs
abbrev pub goes : Leads → List Need → ℕ → State → State
goes j needs index s = record s { jump = j; needs = s.needs ++ needs_at index needs }

-- the same of a jump
pub record IsSetBeforeJump (k : ℕ) (t : Tree) (j : Leads) (needs : List Need) (i first second : Insn) : Type 0 where
  pub jumps : i.kind ≡ Jump
  pub first_plain : first.kind ≡ Plain
  pub second_jumps : second.kind ≡ Jump
  pub fits : fits_kind i.kind i true ≡ true
  pub first_fits : fits_kind first.kind first false ≡ true
  pub second_fits : fits_kind second.kind second true ≡ true
  pub sets : effects_of [] [] first.pattern ≡ record { effect = Sets (suc k) t; needs = [] } ∷ []
  pub alone : after_jump 0 i.pattern start ≡ goes j needs 0 start
  pub behind : (s : State) → s.regs ≡ changed (suc k) (Some t) ∷ [] → s.stores ≡ [] → after_jump 1 second.pattern s ≡ goes j needs 1 s
  pub had : AllByRecursion CanBeHad needs
  pub small_value : is_small t ≡ true
  pub small : is_within (goes j needs 0 start) ≡ true

-- ---- the laws

abbrev pub SetBefore : Type 0
SetBefore =
    (k : ℕ) (t : Tree) (e : Effected) (i first second : Insn) (live : List ℕ) → IsSetBefore k t e i first second → virtual_stack_vars < suc k → has_reg live (suc k) ≡ false →
    Equated (i ∷ []) (Insns (first ∷ second ∷ [])) live

abbrev pub SetBeforeJump : Type 0
SetBeforeJump =
    (k : ℕ) (t : Tree) (j : Leads) (needs : List Need) (i first second : Insn) (live : List ℕ) → IsSetBeforeJump k t j needs i first second → virtual_stack_vars < suc k → has_reg live (suc k) ≡ false →
    Equated (i ∷ []) (Insns (first ∷ second ∷ [])) live
