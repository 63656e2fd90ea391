pub mod Flat
pub mod Steps
pub mod Front
pub mod Refuses
