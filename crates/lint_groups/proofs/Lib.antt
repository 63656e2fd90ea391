pub mod GroupLaws
