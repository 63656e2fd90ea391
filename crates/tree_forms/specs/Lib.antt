pub mod Trees
pub mod machine
