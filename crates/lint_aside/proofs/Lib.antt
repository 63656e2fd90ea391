pub mod PlacedLaws
pub mod SakeLaws
