-- What a base instruction does: what a line of its mnemonic does, so that nothing of it is defined
-- twice. Only the two jumps that leave the place behind them in a register are said here: RISC-V
-- unprivileged manual, "Unconditional Jump Instructions".
use Rattle.std.specs.Prelude.{◌≡◌, ⊤, ℕ, ℤ, ◌<◌, ◌^◌, ◌==◌, true, if◌then◌else◌, [], Option, Some, None}
use Rattle.rtx_tree.specs.declared.machine.World.{World}
use Rattle.rv_text.specs.Table.{row_of}
use Rattle.rv_text.specs.Lines.{is_of_row}
use Rattle.rv_text.specs.declared.line.Line.{Line}
use Rattle.rv_text.specs.declared.mnemonic.Mnemonic.{Mnemonic}
use Rattle.rv_line.specs.Step.{register, place_of, register_call_end, return_end, act}
use Rattle.rv_line.specs.declared.state.RvState.{RvState}
use Rattle.rv_line.specs.declared.state.LineEnd.{LineEnd}
use Rattle.rv_line.specs.declared.state.LineEnd.TheVariants as ends
use Rattle.rv_word.specs.Table.{Meaning, base_row}
use Rattle.rv_word.specs.Spelling.{spelling_of, one_word, opposite, base_of, register_at}
use Rattle.rv_word.specs.declared.base.Base.{Base}
use Rattle.rv_word.specs.declared.spelling.Spelling.{Spelling}
use Rattle.rv_word.specs.declared.spelling.Spelling.TheVariants.{Near}

-- the parts of an instruction as those of a line
abbrev pub line_of : Base → Line
line_of b = record { name = []; rd = b.rd; rs = b.rs1; rt = b.rs2; imm = b.imm; target = [] }

-- jal: jumps as many bytes further as its number says. Where it leaves its place in a register, it is
-- none of a function's jumps
abbrev pub jump_end : Base → LineEnd
jump_end b = if b.rd == 0 then ends.Jumped else ends.Stuck

-- jalr: jumps to the register plus the number. Where ra is left behind, it is a call; where nothing
-- is, a return, or none of a function's jumps
abbrev pub register_jump_end : Base → RvState → LineEnd
register_jump_end b state =
    if b.rd == 0 then return_end state.entry_ra (place_of state (line_of b)) else if b.rd == 1 then register_call_end (place_of state (line_of b)) else ends.Stuck

abbrev pub step_as : Meaning → World → Base → RvState → LineEnd × RvState
step_as (Meaning.As mnemonic) world b state =
    act (row_of mnemonic).action world (line_of b) state
step_as Meaning.Link world b state = (jump_end b, state)
step_as Meaning.LinkRegister world b state = (register_jump_end b state, state)

-- one word: how it ends, and the state after it
abbrev pub step_word : World → Base → RvState → LineEnd × RvState
step_word world b state = step_as (base_row b.op).meaning world b state

-- registers hold 64 bits
abbrev pub HoldsWords : RvState → Type 0
HoldsWords state = (reg number : ℕ) → register state.regs reg ≡ Some number → number < 2 ^ 64

-- ---- the law of a line that has one word

-- what a word does is what the line does
abbrev pub DoesAlike : World → Mnemonic → Line → RvState → Option Base → Type 0
DoesAlike world m line state None = ⊤
DoesAlike world m line state (Some b) =
    step_word world b state ≡ act (row_of m).action world line state

-- each line that has one word does what its word does; where it jumps, the word does too
abbrev pub OneWordDoes : Type 0
OneWordDoes = (world : World) (m : Mnemonic) (line : Line) (state : RvState) (further : ℤ) → is_of_row (row_of m) line ≡ true → HoldsWords state →
    DoesAlike world m line state (one_word (spelling_of m) line further)

-- how a branch ends where its opposite is taken in its place
abbrev pub turned : LineEnd → LineEnd
turned ends.Next = ends.Jumped
turned ends.Jumped = ends.Next
turned (ends.Called target) = ends.Called target
turned ends.Returned = ends.Returned
turned ends.Stuck = ends.Stuck

abbrev pub DoesOpposite : World → Mnemonic → Line → RvState → Spelling → Type 0
DoesOpposite world m line state (Near op rs1 rs2) =
    (further : ℤ) → step_word world (base_of (opposite op) 0 (register_at rs1 line) (register_at rs2 line) further) state ≡ (turned (act (row_of m).action world line state).0, state)
DoesOpposite world m line state spelling = ⊤

-- a branch is not taken where its opposite is, and the other way round
abbrev pub OppositeDoes : Type 0
OppositeDoes = (world : World) (m : Mnemonic) (line : Line) (state : RvState) →
    DoesOpposite world m line state (spelling_of m)
