pub mod Start
pub mod World
pub mod Ending
pub mod Eval
pub mod machine
