-- What lines come to: which of them can be compared, for which uid a label stands, and the state
-- after them.
use Rattle.std.specs.Prelude.{ℕ, ℤ, pos, negsuc, ◌+◌, ◌==◌, ◌^◌, nat_lt, Bool, true, false, if◌then◌else◌, List, [], ◌∷◌, ◌++◌, codes, Option, Some, None, option_and_then}
use Rattle.std.specs.Fmt.{decimal}
use Rattle.text_words.specs.Words.{number_in}
use Rattle.rv_text.specs.Lines.{action_of}
use Rattle.rv_text.specs.declared.action.Action.{Action}
use Rattle.rv_text.specs.declared.action.Action.TheVariants as action
use Rattle.rv_text.specs.declared.line.Line.{Line}
use Rattle.sym_state.specs.State.{State, Ran, start, is_within, ran}
use Rattle.sym_lines.specs.Step.{act}

-- ---- labels

-- what stands behind a front
abbrev pub behind : List ℕ → List ℕ → Option (List ℕ)
behind [] text = Some text
behind (c ∷ front) [] = None
behind (c ∷ front) (d ∷ text) = if c == d then behind front text else None

-- a uid has 32 bits
abbrev pub uid_of : ℤ → Option ℕ
uid_of (pos uid) = if nat_lt uid (2 ^ 32) then Some uid else None
uid_of (negsuc n) = None

-- the uid for which a symbol stands in a function: .L, the function's number, an underscore, the
-- uid
abbrev pub label_uid : ℕ → List ℕ → Option ℕ
label_uid function symbol =
    option_and_then uid_of (option_and_then number_in (behind (codes ".L" ++ (decimal function ++ codes "_")) symbol))

-- ---- which lines can be compared

abbrev pub is_end : List Line → Bool
is_end [] = true
is_end (line ∷ lines) = false

-- a jump and a call are the last; a return can't be compared, nor what is no line of the table
abbrev pub fits_action : Option Action → List Line → Bool
fits_action None rest = false
fits_action (Some (action.Return through)) rest = false
fits_action (Some (action.Branch comparison left right)) rest = is_end rest
fits_action (Some action.Jump) rest = is_end rest
fits_action (Some action.Call) rest = is_end rest
fits_action (Some action.CallRegister) rest = is_end rest
fits_action (Some other) rest = true

-- the place of the first line that can't be compared
abbrev pub bad_from : ℕ → List Line → Option ℕ
bad_from index [] = None
bad_from index (line ∷ lines) =
    if fits_action (action_of line) lines then bad_from (index + 1) lines else Some index

abbrev pub bad_line : List Line → Option ℕ
bad_line lines = bad_from 0 lines

-- ---- the run

-- what is no line of the table does nothing
abbrev pub act_as : Option Action → ℕ → ℕ → Line → State → State
act_as None function index line s = s
act_as (Some a) function index line s = act a index (label_uid function line.target) line s

-- the state after a line of a function at a place
abbrev pub after : ℕ → ℕ → Line → State → State
after function index line s = act_as (action_of line) function index line s

-- the state after all lines, or none where a term of a state that is met is too large
abbrev pub run_from : ℕ → ℕ → List Line → State → Option State
run_from function index [] s = Some s
run_from function index (line ∷ lines) s =
    let next = after function index line s in if is_within next then run_from function (index + 1) lines next else None

-- what lines of a function come to: shapes are looked at first
abbrev pub run : ℕ → List Line → Ran
run function lines = ran (bad_line lines) (run_from function 0 lines start)
