use Rattle.std.proofs.Common.{◌≡◌, drop}
use Rattle.rtl_func.specs.Faults.{earlier, first_fault}
use Rattle.rtl_func.specs.Rules.{all_rule_faults, insn_rules}
use Rattle.rtl_func.proofs.rules.note_rules.Given as goal

abbrev pub invariant-loop-rule : goal.invariant-loop-rule
invariant-loop-rule l = earlier l.first (first_fault (all_rule_faults l.f (drop l.rule-index l.rule-items))) ≡ earlier l.fn.first (first_fault (all_rule_faults l.f insn_rules))
