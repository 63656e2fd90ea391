pub mod Each
pub mod Joined
pub mod Kept
pub mod Uses
pub mod Depths
pub mod SaidLaws
pub mod Patterns
pub mod Parallels
