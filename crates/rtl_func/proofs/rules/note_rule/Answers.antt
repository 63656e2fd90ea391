use Rattle.std.proofs.Common.{◌≡◌, ◌+◌, ◌∷◌, Option, true, false, drop, sym, ap, ◌∙◌}
use Rattle.std.specs.Prelude.{Some}
use Rattle.std.proofs.lemmas.List.{drop_more}
use Rattle.rtx_tree.specs.declared.function.Insn.{Insn}
use Rattle.rtl_func.specs.Faults.{earlier, first_fault, fault}
use Rattle.rtl_func.specs.Rules.{breaks, rule_number, rule_faults_in}
use Rattle.rtl_func.specs.declared.fault.Fault.{Fault}
use Rattle.rtl_func.proofs.FaultLaws.{noted, rule_broken, rule_kept}
use Rattle.rtl_func.proofs.rules.note_rule.Goals as goal
use Rattle.rtl_func.proofs.rules.note_rule.Goals.{then-is_broken, else-is_broken}

pub loop-insn-preserved : goal.loop-insn-preserved
loop-insn-preserved c =
    let insns = c.as_slice-insns.result.now in
    let index = c.loop-insn.insn-index in
    let insn = c.insn-item.result in
    let rest = drop (index + 1) insns in
    let rule = c.args.rule in
    let f = c.args.f.now in
    let here : drop index insns ≡ insn ∷ rest = drop_more insns index insn c.loop-insn-test.true ∙ ap (λ (i : Insn). i ∷ rest) (sym c.insn-item.is) in
    let before = c.loop-insn.first in
    let told = λ (first : Option Fault). earlier first (first_fault (rule_faults_in rule f rest)) in
    elim c.if-is_broken.branch [
      | then-is_broken w ↦
          let is : breaks rule f insn ≡ true = sym c.in_ok-is_broken.ensures ∙ w.if-is_broken.true in
          let new = w.note.ensures ∙ ap (λ n. earlier before (Some (fault n insn.uid))) w.rule_number.ensures in
          ap told w.first-is
          ∙ noted before _ (fault (rule_number rule) insn.uid) (rule_faults_in rule f rest) new
          ∙ sym (ap (λ faults. earlier before (first_fault faults)) (ap (rule_faults_in rule f) here ∙ rule_broken rule f insn rest is))
          ∙ c.loop-insn.invariant
      | else-is_broken w ↦
          let is : breaks rule f insn ≡ false = sym c.in_ok-is_broken.ensures ∙ w.if-is_broken.false in
          ap told w.first-is
          ∙ sym (ap (λ faults. earlier before (first_fault faults)) (ap (rule_faults_in rule f) here ∙ rule_kept rule f insn rest is))
          ∙ c.loop-insn.invariant
    ]
