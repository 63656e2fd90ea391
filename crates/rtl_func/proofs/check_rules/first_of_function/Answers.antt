use Rattle.std.proofs.Common.{List, ap, ◌∙◌}
use Rattle.rtx_tree.specs.declared.function.Insn.{Insn}
use Rattle.rtl_func.specs.Faults.{first_fault}
use Rattle.rtl_func.specs.Rules.{uid_faults, all_rule_faults, insn_rules, name_faults}
use Rattle.rtl_func.proofs.FaultLaws.{noted_three}
use Rattle.rtl_func.proofs.check_rules.first_of_function.Goals as goal

pub returns : goal.returns
returns c before are =
    let f = c.args.f.now in
    let uids = c.in_ok-note_uids.ensures ∙ ap (λ (insns : List Insn). first_fault (uid_faults insns)) c.as_slice.ensures.value in
    noted_three _ _ _ (uid_faults f.insns) (all_rule_faults f insn_rules) (name_faults before f) uids c.in_ok-note_rules.ensures (c.note_name.ensures before are)
