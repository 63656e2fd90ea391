pub mod Paths
pub mod machine
