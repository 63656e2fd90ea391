-- The words of lines that may have several: branches to far labels, li, la and call ("RISC-V Assembly
-- Programmer's Manual", "Pseudoinstructions for RISC-V": far branches, and "Load Immediate"; RISC-V
-- unprivileged manual, "Integer Register-Immediate Instructions": lui builds constants with addi).
use Rattle.std.specs.Prelude.{◌≡◌, ℕ, zero, suc, ℤ, pos, negsuc, ◌-ℤ◌, ◌+◌, ◌*◌, ◌/◌, ◌%◌, ◌^◌, ◌<◌, ◌==◌, nat_lt, Bool, true, false, if◌then◌else◌, List, [], ◌∷◌, ◌++◌, Some, length}
use Rattle.std.specs.Int.{cast_unsigned, w64}
use Rattle.rtx_tree.specs.declared.machine.World.{World}
use Rattle.run_memory.specs.Symbols.{symbol_address}
use Rattle.rv_text.specs.Lines.{is_of_row}
use Rattle.rv_text.specs.Table.{row_of}
use Rattle.rv_text.specs.declared.line.Line.{Line}
use Rattle.rv_text.specs.declared.mnemonic.Mnemonic.TheVariants as mnemonic
use Rattle.rv_line.specs.Step.{with_register, act}
use Rattle.rv_line.specs.declared.state.RvState.{RvState}
use Rattle.rv_line.specs.declared.state.LineEnd.{LineEnd}
use Rattle.rv_line.specs.declared.state.LineEnd.TheVariants as ends
use Rattle.rv_word.specs.Word.{signed_from}
use Rattle.rv_word.specs.Spelling.{register_at, number_at, base_of, opposite}
use Rattle.rv_word.specs.Step.{step_word}
use Rattle.rv_word.specs.declared.base.Base.{Base}
use Rattle.rv_word.specs.declared.base.BaseOp.{BaseOp}
use Rattle.rv_word.specs.declared.base.BaseOp.TheVariants as base
use Rattle.rv_word.specs.declared.spelling.Spelling.{Spelling}
use Rattle.rv_word.specs.declared.spelling.Spelling.TheVariants.{One, Near, Leap, Long, Far}

-- ---- a number in two parts: 4096 times the upper one and the lower one, which has a sign, make it

abbrev pub upper : ℕ → ℕ
upper n = (n + 2048) / 4096

abbrev pub lower : ℕ → ℤ
lower n = signed_from 2048 (n % 4096)

-- ---- li

-- the lower part is added by an instruction, where it isn't 0
abbrev pub added : BaseOp → ℕ → ℕ → List Base
added op rd n = if n % 4096 == 0 then [] else base_of op rd rd 0 (lower n) ∷ []

-- a number is one of those from -half to half - 1
abbrev pub fits : ℕ → ℤ → Bool
fits half (pos n) = nat_lt n half
fits half (negsuc n) = nat_lt n half

-- a number of 32 signed bits
abbrev pub near_words : ℕ → ℤ → List Base
near_words rd c =
    if fits (2 ^ 11) c then base_of base.Addi rd 0 0 c ∷ [] else base_of base.Lui rd 0 0 (pos (upper (cast_unsigned w64 c) % 2 ^ 20)) ∷ added base.Addiw rd (cast_unsigned w64 c)

-- a number without its lower part, shifted to the right by 12 in 64 signed bits
abbrev pub shifted : ℤ → ℤ
shifted c = signed_from (2 ^ 51) (upper (cast_unsigned w64 c) % 2 ^ 52)

-- a number after so many cuts by 12 bits at most
abbrev pub li_words : ℕ → ℕ → ℤ → List Base
li_words zero rd c = near_words rd c
li_words (suc cuts) rd c =
    if fits (2 ^ 31) c then near_words rd c else li_words cuts rd (shifted c) ++ base_of base.Slli rd rd 0 (pos 12) ∷ added base.Addi rd (cast_unsigned w64 c)

-- ---- a line

abbrev pub near_branch : Bool → BaseOp → ℕ → ℕ → ℤ → List Base
near_branch false op rs1 rs2 further = base_of op 0 rs1 rs2 further ∷ []
near_branch true op rs1 rs2 further =
    base_of (opposite op) 0 rs1 rs2 (pos 8) ∷ base_of base.Jal 0 0 0 (further -ℤ pos 4) ∷ []

abbrev pub far_words : BaseOp → ℕ → ℕ → List Base
far_words op reg address =
    base_of base.Lui reg 0 0 (pos (upper address)) ∷ base_of op reg reg 0 (lower address) ∷ []

-- the words of a line: whether it is a long branch, how many bytes further its label stands, and the
-- address of its symbol. Three cuts leave at most 32 bits of 64
abbrev pub line_words : Spelling → Line → Bool → ℤ → ℕ → List Base
line_words (One op rd rs1 rs2 number) line long further address =
    base_of op (register_at rd line) (register_at rs1 line) (register_at rs2 line) (number_at number line) ∷ []
line_words (Near op rs1 rs2) line long further address =
    near_branch long op (register_at rs1 line) (register_at rs2 line) further
line_words Leap line long further address = base_of base.Jal 0 0 0 further ∷ []
line_words Long line long further address = li_words 3 line.rd line.imm
line_words (Far op through) line long further address =
    far_words op (register_at through line) address

-- how many words a line has
abbrev pub word_count : Spelling → Line → Bool → ℕ
word_count spelling line long = length (line_words spelling line long (pos 0) 0)

-- ---- words one after the other

-- goes on where the next word follows
abbrev pub behind : LineEnd → RvState → (RvState → LineEnd × RvState) → LineEnd × RvState
behind ends.Next state next = next state
behind ends.Jumped state next = (ends.Jumped, state)
behind (ends.Called target) state next = (ends.Called target, state)
behind ends.Returned state next = (ends.Returned, state)
behind ends.Stuck state next = (ends.Stuck, state)

abbrev pub straight : World → List Base → RvState → LineEnd × RvState
straight world [] state = (ends.Next, state)
straight world (b ∷ bs) state =
    behind (step_word world b state).0 (step_word world b state).1 (straight world bs)

-- The laws of li, la and call, from any state of 32 registers: their words do what the line does; a
-- call leaves the upper part of the address in ra besides. An address is below 2 ^ 31, by half of
-- what a lower part has.
pub record SequencesDo : Type 0 where
  pub li : (world : World) (line : Line) (state : RvState) →
      is_of_row (row_of mnemonic.Li) line ≡ true → length state.regs ≡ 32 →
      straight world (li_words 3 line.rd line.imm) state ≡ act (row_of mnemonic.Li).action world line state
  pub la : (world : World) (line : Line) (state : RvState) (address : ℕ) →
      is_of_row (row_of mnemonic.La) line ≡ true → length state.regs ≡ 32 →
      symbol_address world.symbols line.target ≡ Some address → address + 2048 < 2 ^ 31 →
      straight world (far_words base.Addi line.rd address) state ≡ act (row_of mnemonic.La).action world line state
  pub call : (world : World) (line : Line) (state : RvState) (address : ℕ) →
      length state.regs ≡ 32 → symbol_address world.symbols line.target ≡ Some address →
      address + 2048 < 2 ^ 31 → address % 4 ≡ 0 → straight world (far_words base.Jalr 1 address) state ≡ ((act (row_of mnemonic.Call).action world line state).0, record state { regs = with_register state.regs 1 (4096 * upper address) })
