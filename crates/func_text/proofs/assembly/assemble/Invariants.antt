use Rattle.std.proofs.Common.{drop}
use Rattle.func_text.proofs.Wholes.{Makes}
use Rattle.func_text.proofs.assembly.assemble.Given as goal

abbrev pub invariant-loop-f : goal.invariant-loop-f
invariant-loop-f l = Makes l.description l.road l.functions l.number l.text.items l.parts l.summary (drop l.f-index l.functions)
