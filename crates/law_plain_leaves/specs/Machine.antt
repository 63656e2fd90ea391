-- Trees behind reload: their registers are those of the machine, and their numbers and symbols are
-- what the assembler takes. GCC Internals, "Registers and Memory", "Constant Expression Types" and
-- "RTL passes" (reload); RISC-V unprivileged manual, "Programmers' Model for Base Integer ISA".
use Rattle.std.specs.Prelude.{◌≡◌, ℕ, List, ℤ, pos, negsuc, nat_le, nat_lt, ◌&&◌, Bool, true, false}
use Rattle.std.specs.List.{list_all}
use Rattle.rtx_tree.specs.declared.code.Code.{Code}
use Rattle.rtx_tree.specs.declared.code.Code.TheVariants.{Reg, Subreg, SymbolRef}
use Rattle.rtx_tree.specs.declared.tree.Rtx.{Rtx, out-Rtx}
use Rattle.text_words.specs.Words.{fits_i64, is_symbol}
use Rattle.rtl_func.specs.Nodes.{nodes_of}
use Rattle.rtl_func.specs.Shapes.{is_shaped}

-- a register is one of 1 to 31, and none is a low part
abbrev pub is_machine_by : Code → ℤ → Bool
is_machine_by Reg (pos n) = nat_le 1 n && nat_lt n 32
is_machine_by Reg (negsuc n) = false
is_machine_by Subreg z = false
is_machine_by _ z = true

abbrev pub is_machine : Rtx → Bool
is_machine x = is_machine_by (out-Rtx x).code (out-Rtx x).number

-- a number has 64 signed bits, and a symbol has a name that the assembler takes
abbrev pub is_named_by : Code → List ℕ → Bool
is_named_by SymbolRef name = is_symbol name
is_named_by _ name = true

abbrev pub is_printable_by : Code → ℤ → List ℕ → Bool
is_printable_by c z name = fits_i64 z && is_named_by c name

abbrev pub is_printable : Rtx → Bool
is_printable x = is_printable_by (out-Rtx x).code (out-Rtx x).number (out-Rtx x).name

-- something holds of a tree and of all trees within it
abbrev pub Throughout : (Rtx → Bool) → Rtx → Type 0
Throughout p x = list_all p (nodes_of x) ≡ true

-- they have the parts of their codes
abbrev pub AreShaped : Rtx → Type 0
AreShaped x = Throughout is_shaped x

-- and their registers are the machine's
abbrev pub AreMachine : Rtx → Type 0
AreMachine x = Throughout is_machine x

-- and can be printed
abbrev pub ArePrintable : Rtx → Type 0
ArePrintable x = Throughout is_printable x
