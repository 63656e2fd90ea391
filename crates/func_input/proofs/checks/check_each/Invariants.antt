use Rattle.std.proofs.Common.{◌≡◌, drop, take}
use Rattle.rtl_func.specs.Names.{AreNames}
use Rattle.func_input.specs.Refused.{refused_from, first_refused}
use Rattle.func_input.proofs.checks.check_each.Given as goal

abbrev pub invariant-loop-f : goal.invariant-loop-f
invariant-loop-f l = record {
  names : AreNames (take l.f-index l.functions) l.names;
  so_far : refused_from l.functions l.f-index (drop l.f-index l.functions) ≡ first_refused l.functions;
}
