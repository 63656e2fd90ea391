pub mod Sorts
pub mod Shown
pub mod Asked
pub mod Standings
pub mod Sits
pub mod Takes
