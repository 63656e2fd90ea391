pub mod Stays
pub mod Narrow
pub mod machine
pub mod Rows
