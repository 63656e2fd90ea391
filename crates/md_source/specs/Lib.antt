pub mod Include
pub mod Source
pub mod Asked
pub mod Faults
pub mod Answers
pub mod machine
