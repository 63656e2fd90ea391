pub mod Rewritten
pub mod FrameRefs
pub mod Homes
