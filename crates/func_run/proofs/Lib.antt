pub mod Law
pub mod Runs
pub mod Cuts
pub mod Unseen
pub mod Stands
