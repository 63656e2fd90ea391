pub mod Conflicts
pub mod machine
pub use Rattle.live.specs as live
