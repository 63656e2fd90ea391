pub mod Lawful
pub mod Grammar
