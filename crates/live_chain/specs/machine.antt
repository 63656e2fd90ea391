-- What the contracts of private functions alone cite.
pub mod Kept
pub mod Whole
pub mod Window
pub mod Demand
