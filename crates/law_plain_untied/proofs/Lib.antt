pub mod Parts
pub mod Led
pub mod Asked
