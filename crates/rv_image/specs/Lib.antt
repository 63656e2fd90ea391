pub mod Image
pub mod machine
pub use Rattle.rv_unit.specs as rv_unit
