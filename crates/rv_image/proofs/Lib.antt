pub mod Laid
pub mod One
pub mod Taken
