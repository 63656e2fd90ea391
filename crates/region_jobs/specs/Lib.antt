pub mod Region
pub mod Jobs
pub mod Kept
