pub mod Kept
pub mod Stands
pub mod Placed
pub mod Tame
pub mod Knows
