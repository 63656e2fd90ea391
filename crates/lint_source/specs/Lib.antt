pub mod Sourced
pub mod Stands
pub mod Runs
pub mod machine
