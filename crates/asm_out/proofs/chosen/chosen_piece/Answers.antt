use Rattle.std.proofs.Common.{List, ℕ, subst, ◌∙◌}
use Rattle.std.proofs.lemmas.Result.{err_from_is_err_and}
use Rattle.asm_out.specs.Filled.{AreLinesOf}
use Rattle.asm_out.specs.Comes.{IsTried}
use Rattle.asm_out.proofs.Calls.{judged_wrong, judged_same, code_piece_is}
use Rattle.asm_out.proofs.chosen.chosen_piece.Goals as goal

pub returns-in_err-compare : goal.returns-in_err-compare
returns-in_err-compare c =
    let a = c.args in
    let tried : IsTried a.setting.now.description.now a.setting.now.number a.setting.now.function.now a.place a.insn.now a.chosen.now c.in_ok-lines.lines c.in_ok-live.live = record {
      needs = c.requires.needs;
      chosen = c.requires.chosen;
      read = subst (λ (t : List ℕ). AreLinesOf t c.in_ok-lines.lines) (c.as_slice.ensures.value ∙ c.in_ok-text.ensures) c.in_ok-lines.ensures;
      live_after = c.in_ok-live.ensures;
    } in
    let p = err_from_is_err_and c.from_residual-in_err-compare.result c.from_residual-in_err-compare.ensures.1 in
    rw (p.1, p.2)
    (judged_wrong a.setting.now.description.now a.setting.now.number a.setting.now.function.now a.place a.insn.now a.chosen.now c.in_ok-lines.lines c.in_ok-live.live tried c.in_err-compare.field-0.0 c.in_err-compare.ensures)

pub returns : goal.returns
returns c =
    let a = c.args in
    let tried : IsTried a.setting.now.description.now a.setting.now.number a.setting.now.function.now a.place a.insn.now a.chosen.now c.in_ok-lines.lines c.in_ok-live.live = record {
      needs = c.requires.needs;
      chosen = c.requires.chosen;
      read = subst (λ (t : List ℕ). AreLinesOf t c.in_ok-lines.lines) (c.as_slice.ensures.value ∙ c.in_ok-text.ensures) c.in_ok-lines.ensures;
      live_after = c.in_ok-live.ensures;
    } in
    let piece = c.in_ok-code_piece.field-0 in
    judged_same a.setting.now.description.now a.setting.now.number a.setting.now.function.now a.place a.insn.now a.chosen.now c.in_ok-lines.lines c.in_ok-live.live tried piece c.in_ok-compare.ensures
    (code_piece_is a.setting.now.description.now a.setting.now.number a.insn.now a.chosen.now c.in_ok-lines.lines c.lines_in.result c.as_slice-2.result.now piece c.in_ok-code_piece.ensures
    (c.as_slice-2.ensures.value ∙ c.in_ok-text.ensures) c.lines_in.ensures)
