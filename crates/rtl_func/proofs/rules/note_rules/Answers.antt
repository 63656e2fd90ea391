use Rattle.std.proofs.Common.{◌≡◌, ◌+◌, ◌∷◌, drop, sym, ap, ◌∙◌, get_or}
use Rattle.std.proofs.lemmas.List.{drop_more}
use Rattle.rtl_func.specs.Faults.{earlier, first_fault}
use Rattle.rtl_func.specs.Rules.{rule_faults, all_rule_faults}
use Rattle.rtl_func.specs.declared.rules.InsnRule.TheVariants.{LabelsStand}
use Rattle.rtl_func.proofs.FaultLaws.{all_noted}
use Rattle.rtl_func.proofs.rules.note_rules.Goals as goal

pub loop-rule-preserved : goal.loop-rule-preserved
loop-rule-preserved c =
    let rules = c.insn_rules-rule-items.result.now in
    let index = c.loop-rule.rule-index in
    let rule = get_or rules index LabelsStand in
    let rest = drop (index + 1) rules in
    let f = c.args.f.now in
    let here : drop index rules ≡ rule ∷ rest = drop_more rules index LabelsStand c.loop-rule-test.true in
    let before = c.loop-rule.first in
    all_noted before _ (rule_faults f rule) (all_rule_faults f rest) c.in_ok-note_rule.ensures
    ∙ sym (ap (λ rules. earlier before (first_fault (all_rule_faults f rules))) here)
    ∙ c.loop-rule.invariant
