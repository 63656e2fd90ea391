pub mod Keeps
pub mod Steps
pub mod Homes
pub use Rattle.law_reload_moves.specs.law_frame as law_frame
pub use Rattle.reload.specs.law_rules as law_rules
pub use Rattle.reload.specs.law_pass_needs as law_pass_needs
pub use Rattle.reload.specs as reload
pub use Rattle.law_reload_moves.specs.reload_choice as reload_choice
pub use Rattle.law_reload_moves.specs.law_window_replaced as law_window_replaced
pub use Rattle.law_homes.specs as law_homes
