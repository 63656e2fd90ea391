pub mod Lists
pub mod Pieces
pub mod Constraint
pub mod Template
pub mod machine
