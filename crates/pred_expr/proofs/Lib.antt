pub mod GrammarLaws
pub mod Each
pub mod TestLaws
pub mod Tests
pub mod Questions
pub mod OneTest
pub mod HasReason
