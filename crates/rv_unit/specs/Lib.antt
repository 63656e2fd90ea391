pub mod Names
pub mod Layout
pub mod Words
pub mod machine
pub use Rattle.long_branches.specs as long_branches
pub use Rattle.rv_word.specs as rv_word
