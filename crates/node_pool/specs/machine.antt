-- What the contracts of private functions and the invariant alone cite.
pub mod Links
