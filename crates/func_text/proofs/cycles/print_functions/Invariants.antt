use Rattle.std.proofs.Common.{drop}
use Rattle.func_text.specs.Cycles.{FunctionComes}
use Rattle.func_after.proofs.Each.{Makes}
use Rattle.func_text.proofs.cycles.print_functions.Given as goal

abbrev pub invariant-loop-f : goal.invariant-loop-f
invariant-loop-f l = Makes (FunctionComes l.desc) l.functions l.initial.out.items l.out.items (drop l.f-index l.functions)
