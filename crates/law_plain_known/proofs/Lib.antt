pub mod Trees
pub mod Tests
pub mod Listed
pub mod Directed
pub mod Whole
pub mod Replaced
pub mod Plainly
