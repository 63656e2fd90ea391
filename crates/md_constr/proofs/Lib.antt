pub mod InputLaws
pub mod ClassLaws
pub mod NameLaws
pub mod TableLaws
