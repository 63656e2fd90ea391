pub mod ComesLaws
pub mod ToldLaws
