pub mod Values
pub mod Statements
pub mod Emission
pub mod machine
