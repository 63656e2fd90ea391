pub mod LiveLaws
pub mod WrongLaws
pub mod FoundLaws
