pub mod WithinLaws
pub mod LineLaws
pub mod StopLaws
