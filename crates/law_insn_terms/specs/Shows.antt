-- When a symbolic state shows a state of a run: each register that was changed has the known bits
-- of its term, or is unset, each other one is as it was, and memory is that behind the stores so
-- far.
use Rattle.std.specs.Prelude.{◌≡◌, ℕ, suc, ◌<◌, ◌^◌, List, length, Option, Some, None, is_some}
use Rattle.std.specs.FinMap.{get}
use Rattle.bits64.specs.declared.Width.{Width}
use Rattle.bits64.specs.Words.{low}
use Rattle.rtx_tree.specs.declared.memories.MemByte.{MemByte}
use Rattle.rtx_tree.specs.Memories.{byte_at}
use Rattle.run_memory.specs.Symbols.{symbol_address}
use Rattle.rtl_step.specs.Regs.{Regs, known_of, reg_value}
use Rattle.term_tree.specs.Tree.{Tree, width_of}
use Rattle.term_mean.specs.Meaning.{Valuation, mean}
use Rattle.term_mean.specs.Stores.{Stored}
use Rattle.sym_insns.specs.sym_state.State.{State}
use Rattle.sym_insns.specs.sym_state.Registers.{held}
use Rattle.law_insn_terms.specs.Needs.{First}

-- registers and symbols of a valuation are those before the first instruction, which have 64 bits
pub record IsOf (v : Valuation) (f : First) : Type 0 where
  pub registers : (reg : ℕ) (w : Width) (value : ℕ) → f.reads reg w ≡ Some value →
      value ≡ low w (v.reg reg)
  pub symbols : (name : List ℕ) (address : ℕ) → symbol_address f.symbols name ≡ Some address →
      address ≡ v.sym name
  pub words : (name : List ℕ) (address : ℕ) → symbol_address f.symbols name ≡ Some address →
      address < 2 ^ 64

-- a register, by what was made of it and by what is known of it now
abbrev pub ShowsRegister : Valuation → First → Regs → Option (Option Tree) → ℕ → Type 0
ShowsRegister v f regs None reg = (w : Width) → reg_value regs reg w ≡ f.reads reg w
ShowsRegister v f regs (Some None) reg = get regs reg ≡ None
ShowsRegister v f regs (Some (Some t)) reg = get regs reg ≡ Some (known_of (width_of t) (mean v t))

-- the bytes of a memory are those of the valuation's memory with a number; it has the addresses
-- that there were at first, each of 64 bits
pub record ShowsMemory (v : Valuation) (f : First) (memory : List MemByte) (number : ℕ) : Type 0 where
  pub bytes : (address byte : ℕ) → byte_at memory address ≡ Some byte →
      byte ≡ v.memory number address
  pub small : (address byte : ℕ) → byte_at memory address ≡ Some byte → byte < 256
  pub words : (address byte : ℕ) → byte_at memory address ≡ Some byte → address < 2 ^ 64
  pub addresses : (address : ℕ) →
      is_some (byte_at memory address) ≡ is_some (byte_at f.memory address)

pub record Shows (v : Valuation) (f : First) (s : State) (regs : Regs) (memory : List MemByte) : Type 0 where
  pub registers : (reg : ℕ) → ShowsRegister v f regs (held s.regs (suc reg)) (suc reg)
  pub memory_is : ShowsMemory v f memory (length s.stores)
  pub stored : Stored v s.stores
