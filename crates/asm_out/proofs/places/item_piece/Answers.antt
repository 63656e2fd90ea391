use Rattle.std.proofs.Common.{◌≡◌, true, Ok, rules, sym, ap, subst, ◌∙◌}
use Rattle.form_needs.specs.Needs.{is_label, is_silent}
use Rattle.asm_out.specs.declared.piece.Piece.{Piece}
use Rattle.asm_out.specs.Outcome.{only_text}
use Rattle.asm_out.specs.Comes.{PlaceComes}
use Rattle.asm_out.proofs.places.item_piece.Goals as goal

pub returns-then-is_label : goal.returns-then-is_label
returns-then-is_label c =
    let a = c.args in
    let is : is_label a.insn.now.kind ≡ true = search rules in
    subst (λ (p : Piece). PlaceComes a.setting.now.description.now a.setting.now.number a.setting.now.function.now a.place a.insn.now (Ok p)) (sym c.in_ok-label.ensures.piece) (PlaceComes.label is c.in_ok-label.ensures.small)

pub returns-then-is_silent : goal.returns-then-is_silent
returns-then-is_silent c =
    let a = c.args in
    let is : is_silent a.insn.now ≡ true = search rules in
    subst (λ (p : Piece). PlaceComes a.setting.now.description.now a.setting.now.number a.setting.now.function.now a.place a.insn.now (Ok p)) (sym (c.only_text.ensures ∙ ap only_text c.new.ensures.items)) (PlaceComes.silent is)
