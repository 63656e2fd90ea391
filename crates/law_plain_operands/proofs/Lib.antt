pub mod Own
pub mod Tests
pub mod Predicates
pub mod Constraints
pub mod Plain
pub mod Members
