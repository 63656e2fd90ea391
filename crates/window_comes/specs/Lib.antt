pub mod Window
pub mod Done
pub mod machine
pub use Rattle.law_window_put.specs as law_window_put
