use Rattle.std.proofs.Common.{◌≡◌, drop}
use Rattle.md_match.proofs.Instantiated.{each_made, with_front}
use Rattle.md_match.proofs.instance.+instantiating.Given as goal

abbrev pub invariant-instances-loop-pattern : goal.invariant-instances-loop-pattern
invariant-instances-loop-pattern l = with_front l.kids (each_made (drop l.pattern-index l.patterns) l.operands) ≡ each_made l.patterns l.operands
