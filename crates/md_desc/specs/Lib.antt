pub mod Recog
pub mod machine
pub use Rattle.md_constr.specs.md_attr as md_attr
pub use Rattle.md_forms.specs as md_forms
pub use Rattle.md_pred.specs as md_pred
pub use Rattle.md_recog.specs as md_recog
