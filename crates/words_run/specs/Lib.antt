pub mod Run
pub use Rattle.rv_line.specs as rv_line
pub use Rattle.rv_word.specs as rv_word
pub use Rattle.rv_image.specs as rv_image
