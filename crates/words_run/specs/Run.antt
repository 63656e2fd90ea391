-- The run of a function's words: RISC-V unprivileged manual, "Programmers' Model for Base Integer
-- ISA" (pc) and "Control Transfer Instructions". What a call does and what a return shows is as in
-- the run of lines.
use Rattle.std.specs.Prelude.{ℕ, ℤ, zero, suc, pos, ◌+ℤ◌, ◌+◌, ◌-◌, ◌*◌, ◌/◌, ◌%◌, ◌==◌, nat_lt, nat_le, ◌&&◌, if◌then◌else◌, List, [], ◌∷◌, ◌++◌, length, Option, Some, None, option_and_then, slice_get, slice_range}
use Rattle.std.specs.Int.{cast_unsigned, w64}
use Rattle.rtx_tree.specs.declared.machine.RangeAt.{RangeAt}
use Rattle.rtx_tree.specs.declared.machine.Reply.{Reply}
use Rattle.rtx_tree.specs.declared.machine.Start.{Start}
use Rattle.rtx_tree.specs.declared.machine.SymbolAt.{SymbolAt}
use Rattle.rtx_tree.specs.declared.machine.World.{World}
use Rattle.run_memory.specs.RunMemory.{visible}
use Rattle.rv_line.specs.Step.{register}
use Rattle.rv_line.specs.Run.{entry, after_call, call_of, saved_of}
use Rattle.rv_line.specs.declared.outcome.CodeCall.{CodeCall}
use Rattle.rv_line.specs.declared.outcome.CodeOutcome.{CodeOutcome}
use Rattle.rv_line.specs.declared.outcome.CodeOutcome.TheVariants as outcomes
use Rattle.rv_line.specs.declared.state.RvState.{RvState}
use Rattle.rv_line.specs.declared.state.LineEnd.{LineEnd}
use Rattle.rv_line.specs.declared.state.LineEnd.TheVariants.{Next, Jumped, Called, Returned, Stuck}
use Rattle.rv_word.specs.Word.{decode}
use Rattle.rv_word.specs.Step.{step_word}
use Rattle.rv_word.specs.declared.base.Base.{Base}
use Rattle.rv_image.specs.Image.{first_entry}
use Rattle.rv_image.specs.declared.image.Image.{Image}

-- ---- a function's own words

-- where the words end that begin at an entry: at the first entry behind it, or at the image's end
abbrev pub end_behind : ℕ → List SymbolAt → ℕ → ℕ
end_behind address [] end = end
end_behind address (symbol ∷ symbols) end =
    if nat_lt address symbol.address then symbol.address else end_behind address symbols end

-- how many words stand before an address
abbrev pub words_before : ℕ → ℕ
words_before address = (address - first_entry) / 4

-- the words of the function at an entry
abbrev pub own_words : Image → ℕ → List ℕ
own_words image address = slice_range image.words (words_before address) (words_before (end_behind address image.entries (first_entry + 4 * length image.words)))

-- ---- a step

-- where a run stands: the address of the next word, the machine, the replies that are left, and the
-- calls so far
pub record Fetching : Type 0 where
  pub pc : ℕ
  pub machine : RvState
  pub replies : List Reply
  pub calls : List CodeCall

-- one word leads on, or ends the run
pub data Turn : Type 0 where
  Goes : Fetching → Turn
  Ends : CodeOutcome → Turn

-- the base instruction at an address, where it is one of the function's own words
abbrev pub fetched : List ℕ → ℕ → ℕ → Option Base
fetched words from pc = if nat_le from pc && ((pc - from) % 4 == 0) then option_and_then decode (slice_get words ((pc - from) / 4)) else None

-- the address so many bytes behind another one
abbrev pub moved_by : ℕ → ℤ → ℕ
moved_by pc offset = cast_unsigned w64 (pos pc +ℤ offset)

-- a call with the replies that are left: the next word follows
abbrev pub replied : List Reply → Fetching → Turn
replied [] s = Ends (outcomes.Asked s.calls)
replied (reply ∷ replies) s =
    Goes (record s { pc = s.pc + 4; machine = after_call reply s.machine; replies = replies })

abbrev pub called : List RangeAt → ℕ → Fetching → Turn
called ranges target s =
    replied s.replies (record s { calls = s.calls ++ call_of ranges target s.machine ∷ [] })

abbrev pub returned : List RangeAt → Fetching → CodeOutcome
returned ranges s = outcomes.Returned (register s.machine.regs 10) (visible ranges s.machine.memory) s.calls (saved_of s.machine.regs)

abbrev pub after_word : LineEnd → List RangeAt → Base → Fetching → Turn
after_word Next ranges b s = Goes (record s { pc = s.pc + 4 })
after_word Jumped ranges b s = Goes (record s { pc = moved_by s.pc b.imm })
after_word (Called target) ranges b s = called ranges target s
after_word Returned ranges b s = Ends (returned ranges s)
after_word Stuck ranges b s = Ends outcomes.Stuck

-- where no instruction stands, the run is stuck
abbrev pub turn_at : Option Base → World → List RangeAt → Fetching → Turn
turn_at None world ranges s = Ends outcomes.Stuck
turn_at (Some b) world ranges s =
    let done = step_word world b s.machine in after_word done.0 ranges b (record s { machine = done.1 })

abbrev pub turn : List ℕ → ℕ → World → List RangeAt → Fetching → Turn
turn words from world ranges s = turn_at (fetched words from s.pc) world ranges s

-- ---- the run

abbrev pub go_on : Turn → (Fetching → CodeOutcome) → CodeOutcome
go_on (Goes s) next = next s
go_on (Ends outcome) next = outcome

-- at most so many words from a state on, of the words that begin at an address
abbrev pub run_from : List ℕ → ℕ → World → List RangeAt → ℕ → Fetching → CodeOutcome
run_from words from world ranges zero s = outcomes.Running s.calls
run_from words from world ranges (suc k) s =
    go_on (turn words from world ranges s) (run_from words from world ranges k)

-- at most k words of the function at an entry of an image
abbrev pub words_run : Image → ℕ → Start → World → ℕ → CodeOutcome
words_run image address start world k = run_from (own_words image address) address world start.visible k (record { pc = address; machine = entry start; replies = world.replies; calls = [] })
