pub mod Parts
pub mod Blanks
pub mod Each
pub mod Cuts
pub mod NameLaws
pub mod Narrowing
