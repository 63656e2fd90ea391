pub mod SourcedLaws
pub mod StandLaws
pub mod ArrangedLaws
pub mod RunLaws
