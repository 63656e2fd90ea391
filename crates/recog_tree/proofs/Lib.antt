mod Parts
mod Effects
pub mod KeyLaw
pub mod Found
pub mod Windows
