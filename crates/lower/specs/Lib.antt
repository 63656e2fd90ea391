pub mod Lower
pub mod machine
