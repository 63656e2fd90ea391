use Rattle.std.proofs.Common.{◌≡◌, ◌++◌, take, flat_map}
use Rattle.md_output.specs.Filled.{piece_text}
use Rattle.md_output.proofs.template.print_pieces.Given as goal

abbrev pub invariant-loop-piece : goal.invariant-loop-piece
invariant-loop-piece l =
    l.out.items ≡ l.initial.out.items
    ++ flat_map (piece_text l.function l.uid l.operands) (take l.piece-index l.pieces)
