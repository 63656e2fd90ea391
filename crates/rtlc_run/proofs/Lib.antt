pub mod Commands
pub mod Tellings
pub mod Described
pub mod Answered
pub mod Runs
pub mod Statuses
