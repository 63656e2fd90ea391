-- What the contracts of private functions alone cite.
pub mod Layout
pub mod Tasks
pub mod Plans
