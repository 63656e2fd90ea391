pub mod Refused
pub mod machine
