pub mod FillLaws
pub mod MarkLaws
pub mod SparseLaws
pub use Rattle.live.proofs as live
