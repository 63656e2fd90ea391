pub mod Told
pub mod machine
