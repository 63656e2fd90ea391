pub mod UnitLaws
pub mod TestLaws
pub mod ListLaws
pub mod LawfulLaws
