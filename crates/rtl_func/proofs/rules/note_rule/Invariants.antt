use Rattle.std.proofs.Common.{◌≡◌, drop}
use Rattle.rtl_func.specs.Faults.{earlier, first_fault}
use Rattle.rtl_func.specs.Rules.{rule_faults_in}
use Rattle.rtl_func.proofs.rules.note_rule.Given as goal

abbrev pub invariant-loop-insn : goal.invariant-loop-insn
invariant-loop-insn l = earlier l.first (first_fault (rule_faults_in l.rule l.f (drop l.insn-index l.insns))) ≡ earlier l.fn.first (first_fault (rule_faults_in l.rule l.f l.insns))
