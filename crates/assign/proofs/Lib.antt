pub mod FindLaws
pub mod FrameLaws
pub mod HomeLaws
pub mod NamedLaws
pub mod OneLaws
pub mod PickLaws
pub mod PlaceLaws
pub mod RisingLaws
