pub mod Live
pub mod machine
