-- When a symbolic state shows a machine of lines: each register that was changed holds the number
-- of its term, each other one what it held at first, and memory is that behind the stores so far.
use Rattle.std.specs.Prelude.{◌≡◌, ℕ, suc, ◌<◌, ◌^◌, List, length, Option, Some, None}
use Rattle.bits64.specs.declared.Width.{Width}
use Rattle.bits64.specs.declared.Width.TheVariants.{W64}
use Rattle.law_insn_terms.specs.law_window_runs.Beside.{reads}
use Rattle.rv_line.specs.Step.{register}
use Rattle.rv_line.specs.declared.state.RvState.{RvState}
use Rattle.term_tree.specs.Tree.{Tree, width_of}
use Rattle.term_mean.specs.Meaning.{Valuation, mean}
use Rattle.term_mean.specs.Stores.{Stored}
use Rattle.sym_lines.specs.sym_state.State.{State}
use Rattle.sym_lines.specs.sym_state.Registers.{held}
use Rattle.law_insn_terms.specs.Needs.{First}
use Rattle.law_insn_terms.specs.Shows.{ShowsMemory}

-- a register, by what was made of it; none is unset before a call
abbrev pub ShowsNumber : Valuation → List (Option ℕ) → List (Option ℕ) → Option (Option Tree) → ℕ →
    Type 0
ShowsNumber v first regs None reg = register regs reg ≡ register first reg
ShowsNumber v first regs (Some None) reg = ⊥
ShowsNumber v first regs (Some (Some t)) reg =
    (register regs reg ≡ Some (mean v t)) × (width_of t ≡ W64)

-- the registers at first have 64 bits each, and are those that are read
pub record IsFirst (v : Valuation) (f : First) (first : List (Option ℕ)) : Type 0 where
  pub reads_are : (reg : ℕ) (w : Width) → f.reads reg w ≡ reads first reg w
  pub words : (reg number : ℕ) → register first reg ≡ Some number →
      (number < 2 ^ 64) × (number ≡ v.reg reg)

pub record ShowsLine (v : Valuation) (f : First) (first : List (Option ℕ)) (s : State) (m : RvState) : Type 0 where
  pub registers : (reg : ℕ) → ShowsNumber v first m.regs (held s.regs (suc reg)) (suc reg)
  pub long : length m.regs ≡ 32
  pub memory_is : ShowsMemory v f m.memory (length s.stores)
  pub stored : Stored v s.stores
