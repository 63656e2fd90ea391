pub use Rattle.law_window_placed.specs.law_lines_ready as law_lines_ready
