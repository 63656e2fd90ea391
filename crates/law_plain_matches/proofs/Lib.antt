pub mod Patterns
pub mod Sets
pub mod Leads
