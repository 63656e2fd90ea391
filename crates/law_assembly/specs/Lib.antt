pub use Rattle.func_text.specs as func_text
