use Rattle.std.proofs.Common.{◌≡◌, drop}
use Rattle.std.specs.List.{flat_map}
use Rattle.same_behaviour.specs.Lawful.{AreAddresses}
use Rattle.code_eval.specs.World.{symbols_in, with_symbols}
use Rattle.code_eval.specs.machine.Used.{AreNamed}
use Rattle.code_eval.proofs.world.+push_symbols_in.Given as goal

abbrev pub invariant-loop-kid : goal.invariant-loop-kid
invariant-loop-kid l = record {
  made : with_symbols l.used.symbols (flat_map symbols_in (drop l.kid-index l.kid-items)) ≡ with_symbols l.fn.used.symbols (symbols_in l.x);
  addresses : AreAddresses l.fn.used.symbols → AreAddresses l.used.symbols;
  named : AreNamed l.used;
}
