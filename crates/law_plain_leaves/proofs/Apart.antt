-- A tree is a register, memory, a constant or a symbol, and no two of these.
use Rattle.std.proofs.Common.{◌≡◌, ℕ, true, false, List, refl}
use Rattle.rtx_tree.specs.declared.code.Code.{Code}
use Rattle.rtx_tree.specs.declared.code.Code.TheVariants as code
use Rattle.rtx_tree.specs.declared.tree.Rtx.{Rtx, out-Rtx}
use Rattle.text_words.specs.Words.{fits_i64}
use Rattle.text_words.specs.Words as words
use Rattle.md_operand.specs.Operand.{is_register, is_register_by, is_memory, is_memory_by, is_constant, is_constant_code, is_symbol, is_symbol_code}
use Rattle.law_plain_leaves.specs.Machine.{is_named_by, is_printable}
use Rattle.law_plain_leaves.proofs.Shaped.{two_of}

-- it is neither a constant nor a symbol
abbrev pub IsPlace : Rtx → Type 0
IsPlace x = (is_constant x ≡ false) × (is_symbol x ≡ false)

register_by : (c : Code) (x : Rtx) (kids : List Rtx) → is_register_by c x kids ≡ true → (is_constant_code c ≡ false) × (is_symbol_code c ≡ false)
register_by code.Reg x kids is = (refl, refl)
register_by code.Subreg x kids is = (refl, refl)
register_by _ x kids is = absurd (let no : ⊥ = cc in no)

pub register : (x : Rtx) → is_register x ≡ true → IsPlace x
register x is = register_by (out-Rtx x).code x (out-Rtx x).kids is

memory_by : (c : Code) (kids : List Rtx) → is_memory_by c kids ≡ true → (is_constant_code c ≡ false) × (is_symbol_code c ≡ false)
memory_by code.Mem kids is = (refl, refl)
memory_by _ kids is = absurd (let no : ⊥ = cc in no)

pub memory : (x : Rtx) → is_memory x ≡ true → IsPlace x
memory x is = memory_by (out-Rtx x).code (out-Rtx x).kids is

-- ---- what can be printed

-- a number has 64 signed bits
pub number_fits : (x : Rtx) → is_printable x ≡ true → fits_i64 (out-Rtx x).number ≡ true
number_fits x printable = (two_of (fits_i64 (out-Rtx x).number) (is_named_by (out-Rtx x).code (out-Rtx x).name) printable).0

symbol_by : (c : Code) (name : List ℕ) → is_symbol_code c ≡ true → is_named_by c name ≡ true → words.is_symbol name ≡ true
symbol_by code.SymbolRef name is named = named
symbol_by _ name is named = absurd (let no : ⊥ = cc in no)

-- a symbol's name is one of the assembler's
pub symbol_named : (x : Rtx) → is_symbol x ≡ true → is_printable x ≡ true → words.is_symbol (out-Rtx x).name ≡ true
symbol_named x is printable =
    symbol_by (out-Rtx x).code (out-Rtx x).name is (two_of (fits_i64 (out-Rtx x).number) (is_named_by (out-Rtx x).code (out-Rtx x).name) printable).1
