pub mod Answers
pub mod Makers
pub mod Registers
pub mod State
pub mod Views
pub mod machine
