-- What the contracts of private functions alone cite.
pub mod Picked
pub mod Named
