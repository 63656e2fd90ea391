use Rattle.std.proofs.Common.{◌≡◌, drop}
use Rattle.std.specs.List.{list_any}
use Rattle.c_words.specs.Tokens.{operator_of_two}
use Rattle.c_cond.specs.machine.Front.{operator_taken}
use Rattle.c_cond.proofs.front.operator_taken.Given as goal

abbrev pub invariant-loop-second : goal.invariant-loop-second
invariant-loop-second l =
    list_any (λ b. operator_taken l.dialect l.constants l.goals (operator_of_two l.first b)) (drop l.second-index l.second-items)
    ≡ list_any (λ b. operator_taken l.dialect l.constants l.goals (operator_of_two l.first b)) l.second-items
