pub mod Known
pub mod Trees
pub mod Effects
pub mod Insns
pub mod Machine
pub mod Memory
pub mod Replied
pub mod Stands
pub mod Twins
pub mod Setting
pub mod Onward
pub mod Outside
pub mod Traverse
pub mod Window
pub mod Inside
pub mod Walk
pub mod Ends
pub mod Replacing
pub use Rattle.law_window_lines.proofs as law_window_lines
pub use Rattle.law_kept_composed.proofs as law_kept_composed
