pub mod Slots
pub mod machine
