pub use Rattle.term_mean.proofs as term_mean
