pub mod Order
pub mod machine
