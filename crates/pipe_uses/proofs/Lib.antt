pub mod TakesLaws
