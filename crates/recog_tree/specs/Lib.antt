pub mod Key
pub mod Windows
pub mod machine
