pub mod Tokens
pub mod Ways
pub mod Expression
pub mod machine
