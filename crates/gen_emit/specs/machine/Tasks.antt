-- What is still to be done while statements run. These definitions serve the contracts of private
-- functions alone.
use Rattle.std.specs.Prelude.{◌≡◌, Bool, List, [], ◌∷◌, ◌++◌, reverse, Option, Some, None, option_map, option_and_then}
use Rattle.rtx_tree.specs.declared.tree.Rtx.{Rtx}
use Rattle.rtx_tree.specs.Tree.{const_of}
use Rattle.rtx_tree.specs.Operands.{operand_at}
use Rattle.gen_emit.specs.declared.draft.Draft.{Draft}
use Rattle.gen_emit.specs.declared.draft.Ended.{Ended}
use Rattle.gen_emit.specs.declared.draft.Ended.TheVariants.{Done}
use Rattle.gen_emit.specs.declared.state.Op.{Op}
use Rattle.gen_emit.specs.declared.state.Op.TheVariants as op
use Rattle.gen_emit.specs.declared.state.Step.{Step}
use Rattle.gen_emit.specs.declared.state.Step.TheVariants as step
use Rattle.gen_emit.specs.declared.state.State.{State}
use Rattle.gen_emit.specs.Values.{Made, made, assigned, moved, fresh, forced, lowered}

-- what is done with values, the last of which stands first, and with a draft
abbrev pub Going : Type 0
Going = List Rtx → Draft → Option Ended

-- a value is made the last
abbrev pub given : Going → List Rtx → Option Made → Option Ended
given next values x = option_and_then (λ (y : Made). next (y.value ∷ values) y.draft) x

abbrev pub operand_made : Option Rtx → Draft → Option Made
operand_made x d = option_map (λ y. made y d) x

-- what comes of something that is done to values and a draft
abbrev pub do_op : Bool → Op → List Rtx → Draft → Going → Option Ended
do_op may (op.Copy k) values d next = given next values (operand_made (operand_at d.operands k) d)
do_op may (op.Constant n) values d next = next (const_of n ∷ values) d
do_op may (op.Fresh m) values d next = given next values (fresh may m d)
do_op may (op.Assign k) (x ∷ values) d next = next values (assigned k x d)
do_op may op.Move (y ∷ x ∷ values) d next = next values (moved x y d)
do_op may (op.Force m) (x ∷ values) d next = given next values (forced may m (made x d))
do_op may (op.LowPart m) (x ∷ values) d next = given next values (lowered m (made x d))
do_op may o values d next = None

-- what comes of a step, where this comes of what it leaves
abbrev pub stepped : Step → Option Ended → Draft → Option Ended
stepped step.Next after d = after
stepped step.Fail after d = None
stepped step.Done after d = Some (Done d)

-- the values of a state, the last first
abbrev pub values_of : State → List Rtx
values_of s = reverse s.values

-- a step leaves a state of which the same comes
abbrev pub Does : Bool → Op → State → Step → State → Type 0
Does may o before s after = (next : Going) → do_op may o (values_of before) before.draft next ≡ stepped s (next (values_of after) after.draft) after.draft

abbrev pub with_value : Rtx → State → State
with_value x s = record s { values = s.values ++ x ∷ [] }

-- a value is made the last, where there is one
abbrev pub MakesLast : Option Rtx → State → Step → State → Type 0
MakesLast None before s after = s ≡ step.Fail
MakesLast (Some x) before s after = (s ≡ step.Next) × (after ≡ with_value x before)
