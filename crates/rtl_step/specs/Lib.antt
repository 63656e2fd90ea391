pub mod Call
pub mod Effect
pub mod Jump
pub mod machine
pub mod Regs
pub mod Step
pub mod Value
