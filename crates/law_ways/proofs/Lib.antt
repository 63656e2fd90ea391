pub mod JoinedWays
pub mod LevelWays
pub mod StateWays
pub mod WholeWays
pub mod Phrases
pub mod Derived
