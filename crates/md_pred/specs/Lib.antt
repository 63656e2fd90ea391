pub mod Holds
pub mod machine
