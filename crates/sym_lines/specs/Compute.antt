-- What a line computes, as a term: RISC-V unprivileged manual, "RV32I Base Integer Instruction
-- Set", "RV64I Base Integer Instruction Set" and "'M' Standard Extension for Integer Multiplication
-- and Division". Each term is made, by the rules of the normal form, of terms in normal form.
use Rattle.std.specs.Prelude.{if◌then◌else◌, []}
use Rattle.bits64.specs.declared.Width.{Width}
use Rattle.bits64.specs.declared.Width.TheVariants.{W64}
use Rattle.bits64.specs.declared.operator.Operator.{Operator}
use Rattle.term_tree.specs.declared.head.Head.TheVariants as heads
use Rattle.term_tree.specs.Tree.{Tree}
use Rattle.term_tree.specs.Form.{same_width}
use Rattle.term_mean.specs.Compared.{low_bits}
use Rattle.sym_state.specs.Makers.{one, term_of}

-- no operator is a load, so no stores are asked

-- a number of a width in 64 bits, with its sign above it
abbrev pub signed_in_64 : Width → Tree → Tree
signed_in_64 w t = if same_width w W64 then t else one [] heads.Sext W64 t

-- what is written ("Integer Register-Register Operations", "Multiplication Operations", "Division
-- Operations"): the instructions on 32 bits read the low bits and sign-extend their result
abbrev pub computed : Operator → Width → Tree → Tree → Tree
computed o w a b = signed_in_64 w (term_of [] o w (low_bits w a) (low_bits w b))
