use Rattle.std.proofs.Common.{Ok, ap}
use Rattle.asm_out.specs.declared.piece.Piece.{Piece}
use Rattle.asm_out.specs.Comes.{Opening, PartComes}
use Rattle.asm_out.proofs.PartLaws.{part_appended}
use Rattle.asm_out.proofs.function.write_opening.Goals as goal

pub returns : goal.returns
returns c =
    λ forms number.
    part_appended (PartComes forms number c.args.f.now) c.args.out.now.items c.append_piece.new.out.items c.args.items.now.items c.append_piece.new.items.items c.append_piece.result Opening
    c.in_ok-piece.piece (ap (λ (p : Piece). Ok p) c.in_ok-piece.ensures) c.append_piece.ensures
