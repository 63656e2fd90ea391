use Rattle.std.proofs.Common.{◌≡◌, ◌++◌, take, flat_map}
use Rattle.rtl_print.specs.Canonical.{printed_insn}
use Rattle.rtl_print.proofs.canonical.print_insns.Given as goal

abbrev pub invariant-loop-insn : goal.invariant-loop-insn
invariant-loop-insn l = l.out.items ≡ l.initial.out.items ++ flat_map printed_insn (take l.insn-index l.insns)
