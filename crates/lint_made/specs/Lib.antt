pub mod Candidates
pub mod Made
