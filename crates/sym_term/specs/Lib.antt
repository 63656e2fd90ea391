pub mod Views
pub use Rattle.term_cuts.specs.term_mean as term_mean
pub mod machine
