pub mod ReadLaws
pub mod JoinLaws
