pub mod Word
pub mod Call
pub mod Chain
pub mod Locals
pub mod Function
pub mod Syntax
pub mod machine
