pub mod Homes
pub mod Living
pub mod Moves
pub mod Between
pub mod Reloaded
pub mod Framed
pub mod Split
