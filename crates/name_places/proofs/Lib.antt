pub mod TextKeys
pub mod FirstNames
