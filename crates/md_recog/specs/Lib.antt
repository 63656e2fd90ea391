pub mod Match
pub mod Recog
