pub mod Kind
pub mod Place
pub mod Reason
pub mod Instance
pub mod Fault
pub mod Unreached
pub mod Summary
pub mod Each
