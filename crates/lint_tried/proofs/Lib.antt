pub mod TestLaws
pub mod KeptLaws
pub mod NextLaws
pub mod RoomLaws
pub mod TakenLaws
pub mod MadeLaws
