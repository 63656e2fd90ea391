pub mod RoomLaws
pub mod MadeLaws
