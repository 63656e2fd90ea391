pub mod Print
pub mod machine
