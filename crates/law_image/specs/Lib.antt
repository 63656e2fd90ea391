pub mod WordsDo
pub mod SameWords
pub use Rattle.words_run.specs as words_run
pub use Rattle.same_behaviour.specs as same_behaviour
