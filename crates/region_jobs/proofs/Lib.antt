pub mod RegionLaws
pub mod AskLaws
pub mod JobLaws
pub mod KeptLaws
