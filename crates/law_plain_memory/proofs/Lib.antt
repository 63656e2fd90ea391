pub mod Loads
pub mod Stores
pub mod Alone
