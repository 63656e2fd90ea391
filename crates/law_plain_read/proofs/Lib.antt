pub mod Sound
pub mod Expressions
pub mod Uses
pub mod Calls
pub mod Entries
pub mod Functions
