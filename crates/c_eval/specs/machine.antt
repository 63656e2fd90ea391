-- What the contracts of private functions alone cite.
pub mod Given
pub mod Places
