pub mod Insn
