use Rattle.std.proofs.Common.{◌≡◌, ◌++◌, take}
use Rattle.std.specs.List.{flat_map}
use Rattle.rtl_print.specs.Print.{spaced_text}
use Rattle.lint_groups.proofs.tries.print_patterns.Given as goal

abbrev pub invariant-loop-pattern : goal.invariant-loop-pattern
invariant-loop-pattern l = l.out.items ≡ l.initial.out.items ++ flat_map spaced_text (take l.pattern-index l.patterns)
