pub mod Words
pub mod Tokens
pub mod Atoms
pub mod machine
pub use Rattle.text_words.specs as text_words
