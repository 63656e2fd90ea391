pub mod Conditions
pub mod Forms
pub mod Makers
pub mod Parts
