pub mod Schedule
pub mod Kept
pub mod machine
