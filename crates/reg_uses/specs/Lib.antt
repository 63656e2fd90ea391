pub mod Effects
pub mod Uses
