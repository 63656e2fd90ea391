pub mod Made
pub mod Replaced
pub mod machine
