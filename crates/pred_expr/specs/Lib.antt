pub mod Texts
pub mod Test
pub mod HasReason
