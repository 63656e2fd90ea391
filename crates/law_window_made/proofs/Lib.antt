pub mod Each
pub mod Does
pub mod Counts
pub mod Uids
pub mod Kept
