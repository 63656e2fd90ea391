pub mod Table
pub mod Word
pub mod Spelling
pub mod Step
pub mod Sequence
