pub mod Alternatives
pub mod Values
pub mod machine
