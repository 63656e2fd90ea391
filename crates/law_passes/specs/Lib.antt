pub use Rattle.law_insn_replaced.specs as law_insn_replaced
