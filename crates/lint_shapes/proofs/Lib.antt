pub mod RefusedLaws
pub mod FirstLaws
