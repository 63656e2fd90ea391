pub mod Paths
pub mod Standing
pub mod Kept
pub mod Uses
pub mod Placed
