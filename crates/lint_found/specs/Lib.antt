pub mod Found
pub mod machine
