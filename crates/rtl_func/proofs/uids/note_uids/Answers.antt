use Rattle.std.proofs.Common.{◌≡◌, ◌+◌, ◌==◌, ◌||◌, ◌&&◌, not, ℕ, ◌∷◌, true, false, drop, sym, ap, ◌∙◌}
use Rattle.std.specs.Ordering.{nat_cmp}
use Rattle.std.specs.BTreeSet as set
use Rattle.std.specs.BTreeSet.{BTreeSet}
use Rattle.std.proofs.lemmas.List.{drop_more}
use Rattle.rtx_tree.specs.declared.function.Insn.{Insn}
use Rattle.rtl_func.specs.Faults.{earlier, first_fault}
use Rattle.rtl_func.specs.Paths.{has_place}
use Rattle.rtl_func.specs.Rules.{uid_fault}
use Rattle.rtl_func.specs.Uids.{is_ruled, is_uid}
use Rattle.rtl_func.proofs.FaultLaws.{all_noted, uid_faults_in, uid_ruled, uid_other}
use Rattle.rtl_func.proofs.uids.note_uids.Goals as goal
use Rattle.rtl_func.proofs.uids.note_uids.Goals.{then-is_ruled+in_ok-note_uid, else-is_ruled}

pub loop-insn-preserved : goal.loop-insn-preserved
loop-insn-preserved c =
    let insns = c.args.insns.now in
    let index = c.loop-insn.insn-index in
    let insn = c.insn-item.result in
    let rest = drop (index + 1) insns in
    let here : drop index insns ≡ insn ∷ rest = drop_more insns index insn c.loop-insn-test.true ∙ ap (λ (i : Insn). i ∷ rest) (sym c.insn-item.is) in
    let first = c.loop-insn.first in
    let before = c.loop-insn.invariant.0 in
    let met = c.loop-insn.invariant.1 in
    let so_far = c.loop-insn.invariant.2 in
    elim c.if-is_ruled.branch [
      | then-is_ruled+in_ok-note_uid w ↦
          let is : is_ruled insn ≡ true = sym c.is_ruled.ensures ∙ w.if-is_ruled.true in
          let good = ap (λ known. uid_fault (is_uid insn.uid && not known) insn.uid) (met insn.uid) in
          let new = w.in_ok-note_uid.ensures.first ∙ ap (λ faults. earlier first (first_fault faults)) good in (
            insn.uid ∷ before,
            λ other. ap (λ (m : BTreeSet ℕ). set.contains nat_cmp m other) w.met-is ∙ w.in_ok-note_uid.ensures.met other ∙ ap (λ known. insn.uid == other || known) (met other),
            ap (λ o. earlier o (first_fault (uid_faults_in (insn.uid ∷ before) rest))) w.first-is
                ∙ all_noted first _ (uid_fault (is_uid insn.uid && not (has_place before insn.uid)) insn.uid) (uid_faults_in (insn.uid ∷ before) rest) new
                ∙ sym (ap (λ faults. earlier first (first_fault faults)) (ap (uid_faults_in before) here ∙ uid_ruled before insn rest is))
                ∙ so_far,
          )
      | else-is_ruled w ↦
          let is : is_ruled insn ≡ false = sym c.is_ruled.ensures ∙ w.if-is_ruled.false in (
            before,
            λ other. ap (λ (m : BTreeSet ℕ). set.contains nat_cmp m other) w.met-is ∙ met other,
            ap (λ o. earlier o (first_fault (uid_faults_in before rest))) w.first-is
                ∙ sym (ap (λ faults. earlier first (first_fault faults)) (ap (uid_faults_in before) here ∙ uid_other before insn rest is))
                ∙ so_far,
          )
    ]
