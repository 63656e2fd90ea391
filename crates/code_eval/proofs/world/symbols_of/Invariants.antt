use Rattle.std.proofs.Common.{◌≡◌, drop}
use Rattle.std.specs.List.{flat_map}
use Rattle.same_behaviour.specs.Lawful.{AreAddresses}
use Rattle.code_eval.specs.World.{symbols_in, with_symbols, symbols_of}
use Rattle.code_eval.specs.machine.Used.{AreNamed}
use Rattle.code_eval.proofs.world.symbols_of.Given as goal

abbrev pub invariant-loop-insn : goal.invariant-loop-insn
invariant-loop-insn l = record {
  made : with_symbols l.used.symbols (flat_map (λ i. symbols_in i.pattern) (drop l.insn-index l.insns)) ≡ symbols_of l.insns;
  addresses : AreAddresses l.used.symbols;
  named : AreNamed l.used;
}
