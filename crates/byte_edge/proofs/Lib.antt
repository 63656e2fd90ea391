pub mod CauseLemmas
pub mod HeldLemmas
pub mod Known
pub mod StoredLemmas
