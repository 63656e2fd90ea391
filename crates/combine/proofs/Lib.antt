pub mod Windows
pub mod Ends
pub mod Front
pub mod One
pub mod Kept
pub mod Depth
mod Unused
pub mod Found
pub mod Next
