pub mod Names
pub mod Predicates
pub mod Tables
pub mod machine
pub use Rattle.c_cond.specs as c_cond
pub use Rattle.c_cond.specs.c_words as c_words
pub use Rattle.md_draft.specs as md_draft
pub use Rattle.md_pattern.specs as md_pattern
pub use Rattle.md_text.specs as md_text
pub use Rattle.pred_expr.specs as pred_expr
