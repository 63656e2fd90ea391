pub mod Placed
pub mod Row
