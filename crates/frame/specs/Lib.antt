pub mod Framed
pub mod machine
pub use Rattle.law_frame.specs as law_frame
