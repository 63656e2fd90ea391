pub mod Lexes
pub mod Codes
pub mod Listed
