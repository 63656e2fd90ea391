-- The starts and the worlds of a machine, and which of them are lawful for a function: RISC-V
-- unprivileged manual, "RV64I Base Integer Instruction Set" (registers and addresses have 64 bits,
-- a byte has 8); RISC-V ELF psABI, "Integer Calling Convention" (the stack pointer is a multiple of
-- 16 at entry).
use Rattle.std.specs.Prelude.{◌≡◌, ℕ, zero, suc, ◌+◌, ◌-◌, ◌%◌, ◌^◌, ◌≤◌, ◌<◌, ◌&&◌, ◌||◌, not, nat_le, nat_lt, Bool, true, false, List, [], ◌∷◌, ◌++◌, slice_index, IsSome}
use Rattle.std.specs.List.{All, filter}
use Rattle.rv_line.specs.rtx_tree.Memories.{IsOrdered, byte_at}
use Rattle.rv_line.specs.rtx_tree.declared.memories.MemByte.{MemByte}
use Rattle.rv_line.specs.rtx_tree.declared.machine.RangeAt.{RangeAt}
use Rattle.rv_line.specs.rtx_tree.declared.machine.Reply.{Reply}
use Rattle.rv_line.specs.rtx_tree.declared.machine.SymbolAt.{SymbolAt}
use Rattle.rv_line.specs.rtx_tree.declared.machine.Start.{Start}
use Rattle.rv_line.specs.rtx_tree.declared.machine.World.{World}
use Rattle.rv_line.specs.run_memory.RunMemory.{is_visible}

-- ---- what a machine holds

-- what a register holds, and an address
abbrev pub IsWord : ℕ → Type 0
IsWord number = number < 2 ^ 64

-- a byte at an address
pub record IsByte (b : MemByte) : Type 0 where
  pub address : IsWord b.address
  pub byte : b.byte < 2 ^ 8

-- each address stands once
pub record IsMemory (memory : List MemByte) : Type 0 where
  pub ordered : IsOrdered memory
  pub bytes : All IsByte memory

-- the registers of a start hold 64 bits
pub record AreWords (start : Start) : Type 0 where
  pub args : (i : ℕ) → i < 8 → IsWord (slice_index start.args i)
  pub saved : (i : ℕ) → i < 12 → IsWord (slice_index start.saved i)
  pub sp : IsWord start.sp
  pub ra : IsWord start.ra

-- ---- lawful starts

-- an address is one of so many just below sp
abbrev pub is_below_sp : Start → ℕ → ℕ → Bool
is_below_sp start size address = nat_le start.sp (address + size) && nat_lt address start.sp

-- the range of the locals just below sp, where there are any
abbrev pub locals_range : Start → ℕ → List RangeAt
locals_range start zero = []
locals_range start (suc n) = record { address = start.sp - suc n; length = suc n } ∷ []

-- A start is lawful for a function with a frame, in which its locals stand: it is one of a machine,
-- sp is a multiple of 16, and the room of the frame below it is there, does not pass below address
-- 0, and is no part of what the caller sees. Visible are the caller's ranges and the locals.
pub record IsLawful (frame locals : ℕ) (start : Start) : Type 0 where
  pub words : AreWords start
  pub memory : IsMemory start.memory
  pub aligned : start.sp % 16 ≡ 0
  pub holds : locals ≤ frame
  pub above_zero : frame ≤ start.sp
  pub present : (address : ℕ) → is_below_sp start frame address ≡ true →
      IsSome (byte_at start.memory address)
  pub ranges : List RangeAt
  pub visible_is : start.visible ≡ ranges ++ locals_range start locals
  pub apart : (address : ℕ) → is_below_sp start frame address ≡ true →
      is_visible ranges address ≡ false

-- what the function of RTL sees of a start: virtual-stack-vars is sp, and of the room only the
-- locals are there
abbrev pub seen_by_rtl : ℕ → ℕ → Start → Start
seen_by_rtl frame locals start = record start {
  vars = start.sp;
  memory = filter (λ b. not (is_below_sp start frame b.address) || is_below_sp start locals b.address) start.memory;
}

-- ---- lawful worlds

-- a reply leaves 64 bits in a0, and writes bytes of visible memory alone
pub record IsLawfulReply (start : Start) (reply : Reply) : Type 0 where
  pub value : IsWord reply.value
  pub bytes : All IsByte reply.writes
  pub visible : All (λ write. is_visible start.visible write.address ≡ true) reply.writes

-- symbols have addresses
abbrev pub AreAddresses : List SymbolAt → Type 0
AreAddresses symbols = All (λ symbol. IsWord symbol.address) symbols

pub record IsLawfulWorld (start : Start) (world : World) : Type 0 where
  pub symbols : AreAddresses world.symbols
  pub replies : All (IsLawfulReply start) world.replies
