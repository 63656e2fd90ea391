pub mod NameLaws
pub mod NumberLaws
pub mod CountLaws
pub mod ShownNames
pub mod ShownBytes
pub mod Checked
pub use Rattle.md_tables.proofs as md_tables
