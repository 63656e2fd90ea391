-- What proofs alone cite.
pub mod Bracketed
