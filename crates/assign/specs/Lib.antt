pub mod Frame
pub mod Homes
pub mod machine
