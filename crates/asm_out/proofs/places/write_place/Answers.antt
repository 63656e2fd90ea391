use Rattle.std.proofs.lemmas.Result.{err_from_is_err_and}
use Rattle.std.proofs.Common.{length}
use Rattle.asm_out.specs.Comes.{Place, PartComes}
use Rattle.asm_out.proofs.PartLaws.{part_appended, part_wrong}
use Rattle.asm_out.proofs.places.write_place.Goals as goal

pub returns-in_err-piece : goal.returns-in_err-piece
returns-in_err-piece c =
    let p = err_from_is_err_and c.from_residual.result c.from_residual.ensures.1 in
    rw (p.1, p.2)
    (part_wrong (PartComes c.args.setting.now.description.now c.args.setting.now.number c.args.setting.now.function.now) (length c.args.out.now.items) (Place c.args.place c.args.insn.now) c.in_err-piece.field-0.0 c.in_err-piece.ensures)

pub returns : goal.returns
returns c =
    part_appended (PartComes c.args.setting.now.description.now c.args.setting.now.number c.args.setting.now.function.now) c.args.out.now.items c.append_piece.new.out.items c.args.items.now.items c.append_piece.new.items.items
    c.append_piece.result (Place c.args.place c.args.insn.now) c.in_ok-piece.piece c.in_ok-piece.ensures c.append_piece.ensures
