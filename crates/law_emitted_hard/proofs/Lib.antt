pub mod Trees
pub mod Operands
pub mod Instances
pub mod Found
pub mod Values
pub mod Patterns
pub mod Forms
pub mod Emitted
