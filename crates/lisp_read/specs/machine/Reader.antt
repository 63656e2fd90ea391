-- The state of the steps that a reader is in. Only private clauses and proofs speak of it.
use Rattle.std.specs.Prelude.{◌≡◌, ◌<◌, ℕ, List, [], ◌∷◌, ◌++◌, length, map, Option, Some, None, Result, Ok, Err}
use Rattle.lisp_read.specs.declared.mode.Mode.{Mode}
use Rattle.lisp_read.specs.declared.mode.Mode.TheVariants as mode
use Rattle.lisp_read.specs.declared.stack.Frame.{Frame}
use Rattle.lisp_read.specs.declared.tree.Tree.{Tree}
use Rattle.lisp_read.specs.declared.reader.Reader.{Reader}
use Rattle.lisp_read.specs.declared.reader.StepError.{StepError}
use Rattle.lisp_read.specs.declared.reader.StepError.TheVariants as error
use Rattle.lisp_read.specs.Part.{Part, Open, parts_of_all}
use Rattle.rtx_tree.specs.Limit.{most_open}
use Rattle.lisp_read.specs.machine.Steps.{Front, State}

-- the parts before the innermost open list or vector, its opening byte included
abbrev pub parts_before : List Frame → List Part
parts_before [] = []
parts_before (f ∷ fs) = (parts_before fs ++ parts_of_all f.before) ++ Open f.kind f.place ∷ []

abbrev pub front : List Frame → List Tree → Front
front stack items = record { within = map (λ f. f.kind) stack; parts = parts_before stack ++ parts_of_all items }

abbrev pub front_of : Reader → Front
front_of r = front r.stack r.items

abbrev pub state_of : Reader → State
state_of r = record { front = front_of r; mode = r.mode }

-- how many braces are open within the first of a block
abbrev pub block_depth : Mode → ℕ
block_depth (mode.Block p d t) = d
block_depth (mode.BlockEscape p d t) = d
block_depth _ = 0

-- why a step was refused, where the steps give this answer and the reader is in this state
abbrev pub Stops : StepError → State → Option State → Type 0
Stops error.Syntax new answer = answer ≡ None
Stops error.Depth new answer = (answer ≡ Some new) × (most_open < length new.front.within)
Stops error.Memory new answer = Unit {0}

-- a step gave what the steps give
abbrev pub Gives : {X : Type 0} → Result X StepError → State → Option State → Type 0
Gives (Ok x) new answer = answer ≡ Some new
Gives (Err e) new answer = Stops e new answer
