pub mod Changes
pub mod Edges
pub mod Numbers
pub mod Registers
pub mod machine
