pub mod Jumped
pub mod Conditions
pub mod Branches
pub mod Calls
pub mod Returns
