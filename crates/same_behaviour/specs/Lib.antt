pub mod Lawful
pub mod Same
pub mod Ending
pub use Rattle.func_run.specs as func_run
pub use Rattle.func_run.specs.rtl_step as rtl_step
pub use Rattle.rv_line.specs.run_memory as run_memory
pub use Rattle.rv_line.specs as rv_line
pub use Rattle.rv_line.specs.rv_text as rv_text
