use Rattle.std.proofs.Common.{take}
use Rattle.rtl_func.specs.Names.{AreNames}
use Rattle.rtl_func.proofs.check_rules.names_of.Given as goal

abbrev pub invariant-loop-f : goal.invariant-loop-f
invariant-loop-f l = AreNames (take l.f-index l.functions) l.names
