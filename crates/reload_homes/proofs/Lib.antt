pub mod Wrapping
pub mod Rewrites
pub mod Lookups
pub mod OrderedLaws
