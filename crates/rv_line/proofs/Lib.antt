pub mod Labels
pub mod Left
pub mod Runs
pub mod Stands
