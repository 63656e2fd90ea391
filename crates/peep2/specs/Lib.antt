pub mod Rewrite
pub mod Scratch
pub mod Cover
pub mod machine
pub use Rattle.form_needs.specs as form_needs
pub use Rattle.window_comes.specs as window_comes
