use Rattle.std.proofs.Common.{ℕ, List, [], ◌∷◌, ◌++◌, length, ap, ◌∙◌}
use Rattle.rv_text.specs.declared.line.CodeItem.{CodeItem}
use Rattle.func_text.specs.Summary.{summary_of}
use Rattle.func_text.proofs.Pieces.{piece_written, piece_refused}
use Rattle.func_text.proofs.assembly.write_after.Goals as goal

pub returns-in_ok-push-in-Ok : goal.returns-in_ok-push-in-Ok
returns-in_ok-push-in-Ok c =
    let w = piece_written {A = ℕ} c.args.description.now c.args.number c.args.f.now c.args.made.now c.args.text.now.items
    c.write_function.new.out.items c.new-items.result.items c.write_function.new.items.items c.args.parts.now c.push.new.self 0
    c.new-items.ensures.items c.in-Ok.ensures.appends
    (c.in_ok-push-in-Ok.ensures.ok ∙ ap (λ (i : List CodeItem). c.args.parts.now ++ i ∷ []) c.from_vec.ensures) in
    (w.0, w.1, w.2, w.3, c.summary_of-summary.ensures ∙ ap (summary_of c.args.f.now c.args.made.now) c.deref.ensures.value ∙ w.4)

pub returns-in-Err : goal.returns-in-Err
returns-in-Err c =
    piece_refused c.args.description.now c.args.number (length c.args.text.now.items) c.args.f.now c.args.made.now c.in-Err.e
    c.refused_at.result c.in-Err.ensures.appends c.refused_at.ensures
