pub mod Nodes
pub mod Conditions
pub mod Operands
pub mod Sets
pub mod Leads
pub mod Takes
