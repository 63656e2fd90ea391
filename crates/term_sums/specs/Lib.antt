pub mod GatheredView
pub mod machine
