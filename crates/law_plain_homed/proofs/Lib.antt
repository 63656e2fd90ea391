pub mod Nodes
pub mod Leaves
