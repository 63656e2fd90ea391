pub mod Tests
pub mod machine
