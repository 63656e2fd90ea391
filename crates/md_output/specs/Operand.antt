-- What an operand is printed as by itself: GCC Internals, "Output Templates and Operand
-- Substitution", with the names of registers and the addresses of the RISC-V assembler.
use Rattle.std.specs.Prelude.{ℕ, ℤ, pos, nat_lt, List, [], ◌∷◌, ◌++◌, codes, if◌then◌else◌}
use Rattle.std.specs.Prelude.{Option, Some, None, option_map, option_and_then}
use Rattle.std.specs.Fmt.{signed_decimal}
use Rattle.rtx_tree.specs.declared.code.Code.{Code}
use Rattle.rtx_tree.specs.declared.code.Code.TheVariants.{Reg, ConstInt, SymbolRef, Mem, Plus}
use Rattle.rtx_tree.specs.declared.tree.Rtx.{Rtx, out-Rtx}
use Rattle.rtx_tree.specs.Registers.{reg_text}

-- what is printed of an operand of which nothing is said: a double quote, which no line of the
-- assembler has
abbrev pub quote : List ℕ
quote = codes "\""

-- ---- registers and numbers

abbrev pub hard_at : Code → ℤ → Option ℕ
hard_at Reg (pos n) = if nat_lt n 32 then Some n else None
hard_at _ n = None

-- the number of a hard register, one of 0 to 31
abbrev pub hard_number : Rtx → Option ℕ
hard_number x = hard_at (out-Rtx x).code (out-Rtx x).number

abbrev pub register_text : Option ℕ → List ℕ
register_text None = quote
register_text (Some reg) = reg_text reg

abbrev pub constant_at : Code → ℤ → Option ℤ
constant_at ConstInt n = Some n
constant_at _ n = None

-- the value of a constant
abbrev pub constant : Rtx → Option ℤ
constant x = constant_at (out-Rtx x).code (out-Rtx x).number

-- ---- memory

-- a base and an offset, where both are there
abbrev pub place_of : Option ℕ → Option ℤ → Option (ℕ × ℤ)
place_of base offset = option_and_then (λ b. option_map (λ o. (b, o)) offset) base

abbrev pub address_at : Code → ℤ → List Rtx → Option (ℕ × ℤ)
address_at Plus n (base ∷ offset ∷ []) = place_of (hard_number base) (constant offset)
address_at code n kids = place_of (hard_at code n) (Some (pos 0))

-- the base and the offset of an address: a hard register, or the sum of one and a constant
abbrev pub address : Rtx → Option (ℕ × ℤ)
address x = address_at (out-Rtx x).code (out-Rtx x).number (out-Rtx x).kids

-- offset(base)
abbrev pub place_text : Option (ℕ × ℤ) → List ℕ
place_text None = quote
place_text (Some place) = signed_decimal place.1 ++ (codes "(" ++ (reg_text place.0 ++ codes ")"))

abbrev pub memory_text : List Rtx → List ℕ
memory_text (x ∷ []) = place_text (address x)
memory_text _ = quote

-- ---- operands

abbrev pub plain_at : Code → ℤ → List ℕ → List Rtx → List ℕ
plain_at Reg n name kids = register_text (hard_at Reg n)
plain_at ConstInt n name kids = signed_decimal n
plain_at SymbolRef n name kids = name
plain_at Mem n name kids = memory_text kids
plain_at _ n name kids = quote

-- a register's name, a number, a symbol's name, or the place of memory
abbrev pub plain_text : Rtx → List ℕ
plain_text x = let o = out-Rtx x in plain_at o.code o.number o.name o.kids
