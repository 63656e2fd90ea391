mod Anys
pub mod Collecting
pub mod Decided
pub mod Instantiated
pub mod Lacking
pub mod Nodes
pub mod OnePattern
pub mod Parts
pub mod Seen
pub mod Placeholders
pub mod GiverLaws
pub mod Placing
pub mod Reaching
mod RtxInduction
mod Short
pub mod Unique
pub mod OneList
