pub mod Placed
pub use Rattle.law_output.specs as law_output
pub use Rattle.law_reload.specs as law_reload
pub use Rattle.sym_insns.specs as sym_insns
pub use Rattle.law_no_pseudos.specs as law_no_pseudos
