use Rattle.std.proofs.Common.{◌≡◌, ◌+◌, [], drop}
use Rattle.c_words.specs.declared.lexer.Pending.TheVariants as pending
use Rattle.c_cond.specs.machine.Front.{reach}
use Rattle.c_cond.proofs.front.reach_from.Given as goal

abbrev pub invariant-loop-count : goal.invariant-loop-count
invariant-loop-count l =
    (reach l.dialect l.constants l.words l.parser l.lexer.pending (drop l.count l.text) + l.count ≡ reach l.dialect l.constants l.words l.initial.parser pending.Nothing l.text)
    × (l.lexer.tokens ≡ [])
