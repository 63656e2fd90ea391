pub mod Outcomes
pub mod Ends
pub mod Keeps
pub use Rattle.same_behaviour.specs as same_behaviour
