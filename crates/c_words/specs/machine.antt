pub mod Lexing
pub mod Known
