pub mod Branches
pub mod machine
