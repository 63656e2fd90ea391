pub use Rattle.same_behaviour.proofs as same_behaviour
