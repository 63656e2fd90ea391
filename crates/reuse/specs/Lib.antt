pub mod Reuse
pub mod machine
