pub mod Same
pub mod Wholes
pub mod Tests
pub mod Fronts
