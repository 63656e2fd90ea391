pub mod Done
pub mod Replace
pub mod machine
pub use Rattle.pass_refusal.specs.equate as equate
pub use Rattle.pass_refusal.specs as pass_refusal
pub use Rattle.pass_refusal.specs.sym_diff as sym_diff
