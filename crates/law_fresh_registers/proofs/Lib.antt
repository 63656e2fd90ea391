pub mod Unnamed
pub mod NotLive
pub mod Spared
