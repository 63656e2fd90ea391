pub mod HeightLaws
pub mod UnitLaws
pub mod SlotLaws
pub mod NextLaws
pub mod RoomLaws
pub mod CycleLaws
pub mod OrderLaws
