pub mod Tree
pub mod View
pub mod Order
pub mod Form
pub mod Small
pub mod machine
