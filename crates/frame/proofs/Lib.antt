pub mod Pushes
pub mod Finished
pub mod Trying
pub mod One
pub mod Marks
pub mod Uids
pub mod Kept
