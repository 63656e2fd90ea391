-- What a sequence prints of its operand: GCC Internals, "Output Templates and Operand Substitution"
-- for the letters c, l and n, and "Output of Assembler Instructions" for z, i, C and N, which are
-- the target's own.
use Rattle.std.specs.Prelude.{ℕ, zero, ℤ, pos, List, [], ◌∷◌, Option, Some, None, codes}
use Rattle.std.specs.Fmt.{signed_decimal}
use Rattle.std.specs.Int.{int_wrapping_neg, w64}
use Rattle.rtx_tree.specs.declared.class.Class.{Class}
use Rattle.rtx_tree.specs.declared.class.Class.TheVariants.{Comparison}
use Rattle.rtx_tree.specs.declared.code.Code.{Code}
use Rattle.rtx_tree.specs.declared.code.Code.TheVariants.{Reg, ConstInt, SymbolRef, LabelRef}
use Rattle.rtx_tree.specs.declared.tree.Rtx.{Rtx, out-Rtx}
use Rattle.rtx_tree.specs.Code.{class_of_code, code_name, reversed}
use Rattle.rv_text.specs.Body.{label_text}
use Rattle.md_text.specs.declared.template.Print.{Print}
use Rattle.md_text.specs.declared.template.Print.TheVariants as print
use Rattle.md_output.specs.Operand.{quote, constant, plain_text}

-- ---- numbers

abbrev pub constant_text_at : Code → ℤ → List ℕ → List ℕ
constant_text_at ConstInt n name = signed_decimal n
constant_text_at SymbolRef n name = name
constant_text_at _ n name = quote

-- %c0: a number, or a symbol's name
abbrev pub constant_text : Rtx → List ℕ
constant_text x = let o = out-Rtx x in constant_text_at o.code o.number o.name

abbrev pub negative_of : Option ℤ → List ℕ
negative_of None = quote
negative_of (Some n) = signed_decimal (int_wrapping_neg w64 n)

-- %n0: the negative of a number, in 64 signed bits
abbrev pub negative_text : Rtx → List ℕ
negative_text x = negative_of (constant x)

abbrev pub or_zero_of : Option ℤ → List ℕ → List ℕ
or_zero_of (Some (pos zero)) text = codes "zero"
or_zero_of _ text = text

-- %z0: zero for the constant 0, else the operand by itself
abbrev pub or_zero_text : Rtx → List ℕ
or_zero_text x = or_zero_of (constant x) (plain_text x)

abbrev pub immediate_at : Code → List ℕ
immediate_at Reg = []
immediate_at _ = codes "i"

-- %i0: the letter i, but nothing for a register
abbrev pub immediate_text : Rtx → List ℕ
immediate_text x = immediate_at (out-Rtx x).code

-- ---- comparisons

abbrev pub comparison_at : Class → Code → List ℕ
comparison_at Comparison code = code_name code
comparison_at _ code = quote

-- %C0: the code of a comparison
abbrev pub comparison_text : Rtx → List ℕ
comparison_text x = comparison_at (class_of_code (out-Rtx x).code) (out-Rtx x).code

abbrev pub name_or_quote : Option Code → List ℕ
name_or_quote None = quote
name_or_quote (Some code) = code_name code

-- %N0: the code of the reverse of a comparison
abbrev pub reversed_text : Rtx → List ℕ
reversed_text x = name_or_quote (reversed (out-Rtx x).code)

-- ---- labels

abbrev pub uid_part_at : Rtx → Code → List Rtx → Rtx
uid_part_at x LabelRef (uid ∷ []) = uid
uid_part_at x _ kids = x

-- the constant that numbers a label: UID of (label_ref UID), or the operand itself
abbrev pub uid_part : Rtx → Rtx
uid_part x = uid_part_at x (out-Rtx x).code (out-Rtx x).kids

abbrev pub label_numbered : ℕ → Option ℤ → List ℕ
label_numbered function (Some (pos uid)) = label_text function uid
label_numbered function _ = quote

-- %l0: a label of the function
abbrev pub label_operand : ℕ → Rtx → List ℕ
label_operand function x = label_numbered function (constant (uid_part x))

-- ---- sequences

-- what a sequence of a function's instruction prints of an operand
abbrev pub shown : ℕ → Print → Rtx → List ℕ
shown function print.Plain x = plain_text x
shown function print.Label x = label_operand function x
shown function print.Constant x = constant_text x
shown function print.Negative x = negative_text x
shown function print.OrZero x = or_zero_text x
shown function print.Immediate x = immediate_text x
shown function print.Comparison x = comparison_text x
shown function print.Reversed x = reversed_text x

-- a quote where the operand is missing
abbrev pub operand_text : ℕ → Print → Option Rtx → List ℕ
operand_text function how None = quote
operand_text function how (Some x) = shown function how x
