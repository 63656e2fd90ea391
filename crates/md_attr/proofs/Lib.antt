pub mod FirstLaws
pub mod TableLaws
