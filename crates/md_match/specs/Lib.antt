pub mod Pattern
pub mod Match
pub mod machine
