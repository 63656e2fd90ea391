use Rattle.std.proofs.Common.{◌≡◌, ◌&&◌, ◌||◌, not, ap, ◌∙◌}
use Rattle.reg_rows.specs.Row.{has}
use Rattle.rtx_tree.specs.RegSet.{has_reg}
use Rattle.reg_uses.specs.Uses.{insn_uses, insn_defines}
use Rattle.live_chain.proofs.WindowLaws.{row_step}
use Rattle.live_chain.proofs.within.row_before.Goals as goal

pub returns-clause-row : goal.returns-clause-row
returns-clause-row c reg =
    let u = insn_uses c.args.insn.now reg in
    let d = insn_defines c.args.insn.now reg in
    let h = has c.args.after.now reg in
    let is_u : has_reg c.as_slice-2.result.now reg ≡ u = ap (λ l. has_reg l reg) c.as_slice-2.ensures.value ∙ c.in_ok-insn_uses.ensures reg in
    let is_d : has_reg c.as_slice.result.now reg ≡ d = ap (λ l. has_reg l reg) c.as_slice.ensures.value ∙ c.in_ok-insn_defines.ensures reg in
    let is_h : has c.in_ok-row.row reg ≡ h = ap (λ l. has l reg) c.in_ok-row.ensures in
    c.in_ok-put_in.ensures.each reg ∙
    (ap (λ b. b || has_reg c.as_slice-2.result.now reg) (c.take_out.ensures.each reg ∙ (ap (λ b. b && not (has_reg c.as_slice.result.now reg)) is_h ∙ ap (λ b. h && not b) is_d)) ∙
    (ap (λ b. (h && not d) || b) is_u ∙ row_step u d h))
