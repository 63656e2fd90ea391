pub mod Others
pub mod Causes
pub mod Sake
