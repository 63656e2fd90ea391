pub mod Placeholders
pub mod Emits
pub mod Matches
pub mod Values
pub mod Branches
pub mod Widened
