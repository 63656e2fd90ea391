pub mod GiverLaws
