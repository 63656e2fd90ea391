pub mod BackLaws
pub mod PathLaws
pub mod SetLaws
pub mod TableLaws
pub mod WaitLaws
pub mod WidthLaws
