pub mod NodeLaws
pub mod SetLaws
pub mod AfterLaws
pub mod LiveLists
