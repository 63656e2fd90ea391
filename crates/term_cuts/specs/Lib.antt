pub use Rattle.term_mean.specs as term_mean
pub mod machine
