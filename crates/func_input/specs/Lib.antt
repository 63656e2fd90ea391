pub mod Refused
pub mod Input
pub mod Outcome
pub mod machine
pub use Rattle.run_refusal.specs as run_refusal
