pub mod Found
pub mod Shapes
pub mod Moves
pub mod Operations
pub mod Comparisons
pub mod Jumps
pub mod Matched
pub mod Stays
