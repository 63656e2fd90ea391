mod Lists
pub mod Dead
pub mod Windows
pub mod Scratches
pub mod Made
pub mod Forms
pub mod Places
pub mod One
pub mod Kept
pub mod Sound
