use Rattle.std.proofs.Common.{◌≡◌, drop}
use Rattle.std.specs.List.{list_all}
use Rattle.rtx_tree.specs.declared.function.Kind.TheVariants.{Plain}
use Rattle.rtl_func.specs.Kinds.{kinds_agree}
use Rattle.lint_windows.proofs.windows.are_plain.Given as goal

-- what is left has the answer
abbrev pub invariant-loop-pattern : goal.invariant-loop-pattern
invariant-loop-pattern l = list_all (kinds_agree Plain) (drop l.pattern-index l.patterns) ≡ list_all (kinds_agree Plain) l.patterns
