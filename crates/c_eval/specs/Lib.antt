pub mod Numbers
pub mod Fold
pub mod Value
pub mod machine
