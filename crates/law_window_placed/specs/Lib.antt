pub use Rattle.law_lines_ready.specs as law_lines_ready
