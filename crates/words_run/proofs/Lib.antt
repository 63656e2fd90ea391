pub mod Fill
pub mod Own
