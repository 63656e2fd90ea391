-- When the test of a predicate or of a constraint holds for an operand: GCC Internals, "Defining
-- Machine-Specific Predicates" and "Defining Machine-Specific Constraints".
use Rattle.std.specs.Prelude.{ℕ, Bool, false, not, ◌&&◌, ◌||◌, List, [], ◌∷◌, if◌then◌else◌}
use Rattle.std.specs.List.{list_any}
use Rattle.rtx_tree.specs.declared.code.Code.{Code}
use Rattle.rtx_tree.specs.declared.code.Mode.{Mode}
use Rattle.rtx_tree.specs.declared.tree.Rtx.{Rtx}
use Rattle.rtx_tree.specs.Code.{mode_or}
use Rattle.c_cond.specs.declared.tree.Tree.{Tree}
use Rattle.c_eval.specs.Numbers.{is_zero}
use Rattle.c_eval.specs.Value.{is_a, under_test, worth}
use Rattle.pred_expr.specs.declared.question.Question.{Question}
use Rattle.pred_expr.specs.declared.question.Question.TheVariants as question
use Rattle.pred_expr.specs.declared.question.Test.{Test}
use Rattle.pred_expr.specs.declared.question.Test.TheOpen.{Test-F}
use Rattle.pred_expr.specs.declared.question.Test.TheFolds.{fold-Test}

-- which trees predicates accept in a mode, by their names
abbrev pub Accepts : Type 0
Accepts = List ℕ → Rtx → Mode → Bool

-- ---- questions

-- the operand has one of these codes
abbrev pub has_code : List Code → Rtx → Bool
has_code cs x = list_any (λ c. is_a c x) cs

-- the condition isn't 0 for the operand
abbrev pub condition_holds : Tree → Rtx → Bool
condition_holds c x = not (is_zero (worth (under_test x) c))

-- The answer to a question about an operand in a mode, with the answers to its parts. No question
-- has other parts than these. An inner predicate is asked in its own mode, or in that of the call
-- where it has none.
abbrev pub answer : Accepts → Rtx → Mode → Question → List Bool → Bool
answer accepts x m (question.Codes cs) [] = has_code cs x
answer accepts x m (question.Condition c) [] = condition_holds c x
answer accepts x m (question.Predicate name own) [] = accepts name x (mode_or own m)
answer accepts x m question.And (a ∷ b ∷ []) = a && b
answer accepts x m question.Ior (a ∷ b ∷ []) = a || b
answer accepts x m question.Not (a ∷ []) = not a
answer accepts x m question.IfThenElse (a ∷ b ∷ c ∷ []) = if a then b else c
answer accepts x m _ _ = false

-- ---- tests

abbrev pub test_step : Accepts → Rtx → Mode → Test-F Bool → Bool
test_step accepts x m t = answer accepts x m t.question t.parts

-- whether a test holds for an operand that is asked for in a mode
abbrev pub test_holds : Accepts → Rtx → Mode → Test → Bool
test_holds accepts x m = fold-Test Bool (test_step accepts x m)
