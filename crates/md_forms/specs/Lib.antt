pub mod Names
pub mod Checks
pub mod Forms
pub mod Reasons
pub mod Shown
pub mod machine
pub use Rattle.md_tables.specs.c_cond as c_cond
pub use Rattle.md_tables.specs.md_draft as md_draft
pub use Rattle.md_tables.specs.md_pattern as md_pattern
pub use Rattle.md_tables.specs as md_tables
pub use Rattle.md_tables.specs.c_words as c_words
