-- A machine of instructions and one of lines beside it: what the first has in memory, the second
-- has too; the caller sees the same of both; and a register of the second has the low bits that are
-- known in the first. Room that only the second has costs nothing.
use Rattle.std.specs.Prelude.{◌≡◌, ℕ, ◌<◌, ◌^◌, List, length, Option, Some, option_map}
use Rattle.bits64.specs.declared.Width.{Width}
use Rattle.bits64.specs.Words.{low}
use Rattle.rtx_tree.specs.declared.machine.RangeAt.{RangeAt}
use Rattle.rtx_tree.specs.declared.memories.MemByte.{MemByte}
use Rattle.rtx_tree.specs.Memories.{byte_at}
use Rattle.same_behaviour.specs.run_memory.RunMemory.{visible}
use Rattle.same_behaviour.specs.rtl_step.Regs.{Regs, reg_value}
use Rattle.same_behaviour.specs.rv_line.Step.{register}
use Rattle.same_behaviour.specs.rv_line.declared.state.RvState.{RvState}
use Rattle.same_behaviour.specs.Lawful.{IsMemory}

-- what is read of a machine's register in a width: its low bits, where it is set
abbrev pub reads : List (Option ℕ) → ℕ → Width → Option ℕ
reads regs reg w = option_map (low w) (register regs reg)

-- the low bits that are known of a register in the first machine are those of the second
abbrev pub Agrees : Regs → List (Option ℕ) → ℕ → Type 0
Agrees regs code reg =
    (w : Width) (value : ℕ) → reg_value regs reg w ≡ Some value → reads code reg w ≡ Some value

-- each byte of one memory is in the other
abbrev pub Within : List MemByte → List MemByte → Type 0
Within memory other =
    (address byte : ℕ) → byte_at memory address ≡ Some byte → byte_at other address ≡ Some byte

-- 32 registers of 64 bits, and a memory
pub record IsMachine (m : RvState) : Type 0 where
  pub long : length m.regs ≡ 32
  pub words : (reg number : ℕ) → register m.regs reg ≡ Some number → number < 2 ^ 64
  pub memory : IsMemory m.memory

pub record Beside (ranges : List RangeAt) (memory : List MemByte) (m : RvState) : Type 0 where
  pub first : IsMemory memory
  pub second : IsMachine m
  pub within : Within memory m.memory
  pub visible_is : visible ranges m.memory ≡ visible ranges memory
