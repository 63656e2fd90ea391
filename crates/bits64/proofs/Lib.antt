pub mod Readings
pub mod Products
pub mod Quotients
pub mod Operators
