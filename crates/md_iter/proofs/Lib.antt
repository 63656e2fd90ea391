pub mod Each
pub mod Lists
pub mod Counts
pub mod Places
pub mod Uses
pub mod Making
pub mod KindLaws
pub mod Refused
