pub mod Starts
pub mod Nodes
pub mod Instances
pub mod Meanings
pub mod Fits
pub mod Plans
pub mod Taken
