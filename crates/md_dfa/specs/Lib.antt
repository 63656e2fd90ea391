pub mod Units
pub mod Test
pub mod Reservations
pub mod Pipeline
pub mod Lawful
