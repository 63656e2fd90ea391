pub mod Lists
pub mod NameLaws
pub mod DepthLaws
pub use Rattle.md_draft.proofs as md_draft
pub use Rattle.md_pattern.proofs as md_pattern
