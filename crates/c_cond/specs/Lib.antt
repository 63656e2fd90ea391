pub mod Tree
pub mod Grammar
pub mod Beginning
pub mod Answers
pub mod machine
pub use Rattle.c_words.specs as c_words
pub mod Reading
