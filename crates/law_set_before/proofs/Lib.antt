pub mod Frames
pub mod Within
pub mod Agreed
pub mod Before
pub mod Jumps
