pub mod Combine
pub mod machine
