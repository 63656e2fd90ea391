pub mod OneComes
pub mod Calls
