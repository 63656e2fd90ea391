-- The run of a list of lines and labels.
use Rattle.std.specs.Prelude.{ℕ, zero, suc, ◌+◌, Bool, false, if◌then◌else◌, List, [], ◌∷◌, ◌++◌, Option, Some, None, slice_index, bytes_eq}
use Rattle.rtx_tree.specs.Registers.{is_call_used}
use Rattle.rtx_tree.specs.declared.machine.Start.{Start}
use Rattle.rtx_tree.specs.declared.machine.World.{World}
use Rattle.rtx_tree.specs.declared.machine.RangeAt.{RangeAt}
use Rattle.rtx_tree.specs.declared.machine.Reply.{Reply}
use Rattle.run_memory.specs.RunMemory.{visible, written}
use Rattle.rv_text.specs.Body.{label_text}
use Rattle.rv_text.specs.declared.line.Line.{Line}
use Rattle.rv_text.specs.declared.line.CodeItem.{CodeItem}
use Rattle.rv_text.specs.declared.line.CodeItem.TheVariants.{Label, Code}
use Rattle.rv_line.specs.Step.{register, with_register, step}
use Rattle.rv_line.specs.declared.outcome.CodeCall.{CodeCall}
use Rattle.rv_line.specs.declared.outcome.CodeOutcome.{CodeOutcome}
use Rattle.rv_line.specs.declared.outcome.CodeOutcome.TheVariants as outcomes
use Rattle.rv_line.specs.declared.outcome.Saved.{Saved}
use Rattle.rv_line.specs.declared.state.RvState.{RvState}
use Rattle.rv_line.specs.declared.state.LineEnd.{LineEnd}
use Rattle.rv_line.specs.declared.state.LineEnd.TheVariants.{Next, Jumped, Called, Returned, Stuck}

-- ---- registers at entry, at a call and at a return (RISC-V ELF psABI, "Integer Register Convention")

-- an argument of the start, a0 being number 0, and a saved register, s0 being number 0
abbrev pub arg : Start → ℕ → Option ℕ
arg start k = Some (slice_index start.args k)

abbrev pub saved : Start → ℕ → Option ℕ
saved start k = Some (slice_index start.saved k)

-- the registers at entry: zero, ra, sp, a0 to a7 and s0 to s11 are set, every other one is not
abbrev pub entry_regs : Start → List (Option ℕ)
entry_regs start =
    Some 0 ∷ Some start.ra ∷ Some start.sp ∷ None ∷ None ∷ None ∷ None ∷ None ∷
    saved start 0 ∷ saved start 1 ∷ arg start 0 ∷ arg start 1 ∷ arg start 2 ∷ arg start 3 ∷ arg start 4 ∷ arg start 5 ∷
    arg start 6 ∷ arg start 7 ∷ saved start 2 ∷ saved start 3 ∷ saved start 4 ∷ saved start 5 ∷ saved start 6 ∷ saved start 7 ∷
    saved start 8 ∷ saved start 9 ∷ saved start 10 ∷ saved start 11 ∷ None ∷ None ∷ None ∷ None ∷ []

abbrev pub entry : Start → RvState
entry start = record { regs = entry_regs start; entry_ra = start.ra; memory = start.memory }

-- what a call leaves in registers, from the one with a number on: those that a called function need
-- not preserve are unset
abbrev pub left_from : ℕ → List (Option ℕ) → List (Option ℕ)
left_from reg [] = []
left_from reg (value ∷ rest) = (if is_call_used reg then None else value) ∷ left_from (reg + 1) rest

-- after a call a0 holds the reply's number, and the other registers that need not be preserved are
-- unset; the reply's bytes are written
abbrev pub after_call : Reply → RvState → RvState
after_call reply state = record state {
  regs = with_register (left_from 0 state.regs) 10 reply.value;
  memory = written reply.writes state.memory;
}

-- a0 to a7
abbrev pub args_of : List (Option ℕ) → List (Option ℕ)
args_of regs = register regs 10 ∷ register regs 11 ∷ register regs 12 ∷ register regs 13 ∷ register regs 14 ∷ register regs 15 ∷ register regs 16 ∷ register regs 17 ∷ []

-- sp, and s0 to s11
abbrev pub saved_of : List (Option ℕ) → Saved
saved_of regs = record {
  sp = register regs 2;
  saved = register regs 8 ∷ register regs 9 ∷ register regs 18 ∷ register regs 19 ∷ register regs 20 ∷ register regs 21 ∷ register regs 22 ∷
      register regs 23 ∷ register regs 24 ∷ register regs 25 ∷ register regs 26 ∷ register regs 27 ∷ [];
}

-- ---- labels and lines

abbrev pub is_label : List ℕ → CodeItem → Bool
is_label target (Label function uid) = bytes_eq (label_text function uid) target
is_label target (Code line) = false

-- what stands behind the first label with a text
abbrev pub behind_label : List ℕ → List CodeItem → Option (List CodeItem)
behind_label target [] = None
behind_label target (item ∷ items) =
    if is_label target item then Some items else behind_label target items

-- the first line and what stands behind it: a label takes no step
abbrev pub next_line : List CodeItem → Option (Line × List CodeItem)
next_line [] = None
next_line (Label function uid ∷ items) = next_line items
next_line (Code line ∷ items) = Some (line, items)

-- ---- the run

-- where a run stands: the items that follow, the machine, the replies that are left, and the calls
-- so far
pub record Running : Type 0 where
  pub rest : List CodeItem
  pub machine : RvState
  pub replies : List Reply
  pub calls : List CodeCall

-- one line leads on, or ends the run
pub data Turn : Type 0 where
  Goes : Running → Turn
  Ends : CodeOutcome → Turn

-- the call of a function: its address, a0 to a7, and the memory that the caller sees
abbrev pub call_of : List RangeAt → ℕ → RvState → CodeCall
call_of ranges target machine = record { target = target; args = args_of machine.regs; memory = visible ranges machine.memory }

-- a call with the replies that are left
abbrev pub replied : List Reply → List CodeItem → Running → Turn
replied [] rest s = Ends (outcomes.Asked s.calls)
replied (reply ∷ replies) rest s =
    Goes (record s { rest = rest; machine = after_call reply s.machine; replies = replies })

abbrev pub called : List RangeAt → ℕ → List CodeItem → Running → Turn
called ranges target rest s =
    replied s.replies rest (record s { calls = s.calls ++ call_of ranges target s.machine ∷ [] })

abbrev pub jumped : Option (List CodeItem) → Running → Turn
jumped None s = Ends outcomes.Stuck
jumped (Some rest) s = Goes (record s { rest = rest })

abbrev pub returned : List RangeAt → Running → CodeOutcome
returned ranges s = outcomes.Returned (register s.machine.regs 10) (visible ranges s.machine.memory) s.calls (saved_of s.machine.regs)

abbrev pub after_line : LineEnd → List RangeAt → List CodeItem → Line → List CodeItem → Running →
    Turn
after_line Next ranges items line rest s = Goes (record s { rest = rest })
after_line Jumped ranges items line rest s = jumped (behind_label line.target items) s
after_line (Called target) ranges items line rest s = called ranges target rest s
after_line Returned ranges items line rest s = Ends (returned ranges s)
after_line Stuck ranges items line rest s = Ends outcomes.Stuck

-- where no line follows, the run is stuck
abbrev pub turn_at : Option (Line × List CodeItem) → World → List RangeAt → List CodeItem →
    Running → Turn
turn_at None world ranges items s = Ends outcomes.Stuck
turn_at (Some next) world ranges items s =
    let done = step world next.0 s.machine in after_line done.0 ranges items next.0 next.1 (record s { machine = done.1 })

abbrev pub turn : World → List RangeAt → List CodeItem → Running → Turn
turn world ranges items s = turn_at (next_line s.rest) world ranges items s

abbrev pub go_on : Turn → (Running → CodeOutcome) → CodeOutcome
go_on (Goes s) next = next s
go_on (Ends outcome) next = outcome

-- at most so many lines from a state on
abbrev pub run_from : World → List RangeAt → List CodeItem → ℕ → Running → CodeOutcome
run_from world ranges items zero s = outcomes.Running s.calls
run_from world ranges items (suc k) s =
    go_on (turn world ranges items s) (run_from world ranges items k)

-- at most k lines of the items, from the first on
abbrev pub run : List CodeItem → Start → World → ℕ → CodeOutcome
run items start world k = run_from world start.visible items k (record { rest = items; machine = entry start; replies = world.replies; calls = [] })
