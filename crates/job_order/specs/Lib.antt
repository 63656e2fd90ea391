pub mod Jobs
pub mod Slots
pub mod Order
pub mod machine
