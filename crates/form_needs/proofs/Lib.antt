pub mod Homeless
pub mod OneChosen
