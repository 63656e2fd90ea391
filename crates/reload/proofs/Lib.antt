pub mod Matching
pub mod Choosing
pub mod One
pub mod Running
pub mod Adding
pub mod WindowLaws
pub mod Marks
pub mod Uids
pub use Rattle.law_frame.proofs as law_frame
pub use Rattle.law_pass_needs.proofs.law_rules as law_rules
pub use Rattle.law_pass_needs.proofs as law_pass_needs
