pub mod Induction
pub mod Law
pub mod Saved
pub mod Composing
pub mod Kept
pub mod Going
pub mod Windows
pub mod Labels
pub mod Local
pub mod LocalJump
pub mod LocalCall
pub mod Whole
pub mod Alone
pub mod Moves
pub mod Moved
pub mod Chain
pub mod Registers
pub mod JumpLabels
pub mod Natural
pub mod Placeable
pub mod Reloading
pub mod KeepsVars
pub mod EffectsKeep
pub mod NaturalMoves
pub mod NaturalBetween
pub mod NaturalWindows
pub mod NaturalHomes
pub mod PatternLeaves
pub mod FormLeaves
pub mod SoleOperators
pub mod Linked
pub mod SoundPatterns
pub mod WithFrame
pub use Rattle.reload.proofs.law_rules as law_rules
pub use Rattle.law_homes.proofs as law_homes
pub use Rattle.law_reload_moves.proofs.law_window_replaced as law_window_replaced
