pub mod Counted
pub mod Ends
