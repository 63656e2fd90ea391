pub mod Depends
pub mod machine
