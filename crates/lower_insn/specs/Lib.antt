pub mod Settings
pub mod Plan
pub mod Lowered
pub mod machine
pub use Rattle.form_needs.specs as form_needs
pub use Rattle.md_emit.specs as md_emit
pub use Rattle.gen_emit.specs as gen_emit
