pub mod Image
pub mod DoWords
pub use Rattle.law_assembly.specs.func_text as func_text
