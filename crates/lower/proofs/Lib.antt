pub mod Matched
pub mod Places
pub mod OneLower
pub mod Kept
