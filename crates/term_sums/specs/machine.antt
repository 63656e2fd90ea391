pub mod Places
pub mod Gathering
pub mod Summing
