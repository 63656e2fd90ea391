pub mod Flags
pub mod Apart
pub mod Rounds
pub mod Places
