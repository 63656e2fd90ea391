pub mod Side
pub mod Verdict
pub mod Equated
pub mod Views
pub mod Answers
pub mod Told
pub mod Sound
pub use Rattle.sym_diff.specs as sym_diff
pub use Rattle.sym_state.specs as sym_state
pub use Rattle.sym_insns.specs as sym_insns
pub use Rattle.sym_lines.specs as sym_lines
