pub mod Moves
pub mod Items
pub mod Pieces
pub mod Insns
pub mod Framed
