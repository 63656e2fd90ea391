use Rattle.std.proofs.Common.{length}
use Rattle.std.proofs.lemmas.Result.{err_from_is_err_and}
use Rattle.func_text.proofs.Pieces.{next_refused, next_comes}
use Rattle.func_text.proofs.assembly.write_next.Goals as goal

pub returns-in_err-made : goal.returns-in_err-made
returns-in_err-made c =
    let p = err_from_is_err_and c.from_residual.result c.from_residual.ensures.1 in
    rw (p.1, p.2)
    (next_refused c.args.description.now c.args.road c.args.number (length c.args.text.now.items) c.args.f.now c.in_err-made.field-0.0
    c.in_err-made.ensures.gives)

pub returns : goal.returns
returns c =
    next_comes c.args.description.now c.args.road c.args.number (length c.args.text.now.items) c.args.f.now c.in_ok-made.made c.args.text.now.items
    c.write_after.new.text.items c.args.parts.now c.write_after.new.parts c.write_after.result
    c.in_ok-made.ensures.gives c.write_after.ensures
