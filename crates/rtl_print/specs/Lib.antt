pub mod Print
pub mod Canonical
pub mod Back
pub mod machine
