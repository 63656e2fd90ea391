pub mod Table
pub mod Lines
pub mod Text
pub mod Body
pub mod machine
pub use Rattle.text_words.specs as text_words
