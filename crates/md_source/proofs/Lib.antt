pub mod KnownTexts
pub mod Comes
pub mod Named
pub mod Faults
pub mod One
