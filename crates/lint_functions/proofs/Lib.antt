pub mod NumberedLaws
