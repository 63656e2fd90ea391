-- What the contracts of private functions alone cite, and how a need that may be none is a list.
pub mod Places
