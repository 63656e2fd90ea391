pub mod Nodes
pub mod Leaves
pub mod Sets
pub mod Leading
