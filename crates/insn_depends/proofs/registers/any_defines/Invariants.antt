use Rattle.std.proofs.Common.{◌≡◌, drop}
use Rattle.std.specs.List.{list_any}
use Rattle.insn_depends.specs.Depends.{effect_defines}
use Rattle.insn_depends.specs.machine.Tests.{holds}
use Rattle.insn_depends.proofs.registers.any_defines.Given as goal

abbrev pub invariant-loop-x : goal.invariant-loop-x
invariant-loop-x l = list_any (effect_defines (holds l.test l.other)) (drop l.x-index l.effects) ≡ list_any (effect_defines (holds l.test l.other)) l.effects
