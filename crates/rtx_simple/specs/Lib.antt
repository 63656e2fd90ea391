pub mod Simple
pub mod machine
