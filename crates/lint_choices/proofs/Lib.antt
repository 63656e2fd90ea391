pub mod EdgeLaws
pub mod FilledLaws
pub mod PushedLaws
pub mod InsertedLaws
