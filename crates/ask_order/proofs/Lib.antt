pub mod Lists
pub mod Marks
pub mod Paths
pub mod Measure
pub mod WeightLaws
