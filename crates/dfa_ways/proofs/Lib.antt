pub mod Lexes
pub mod WayLaws
pub mod JoinLaws
pub mod StateLaws
