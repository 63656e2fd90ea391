-- The generated function with a number: sixteen settings, so many operations that a generator of
-- numbers picks, and the sum of all registers. GCC Internals, "Insns", "Regs", "Arith", "Bit-Fields"
-- for what its trees are; the function is this project's own.
use Rattle.std.specs.Prelude.{ℕ, zero, suc, ◌+◌, ◌/◌, ◌%◌, ◌^◌, pos, List, [], ◌∷◌, ◌++◌, codes, nat_lt, Some, slice_index_or, if◌then◌else◌}
use Rattle.bits64.specs.declared.Width.TheVariants.{W64}
use Rattle.bits64.specs.Words.{sum_of, product_of}
use Rattle.rtx_tree.specs.declared.code.Code.{Code}
use Rattle.rtx_tree.specs.declared.code.Code.TheVariants.{Set, Plus, Minus, Mult, And, Ior, Xor, Ashift, Lshiftrt}
use Rattle.rtx_tree.specs.declared.code.Mode.TheVariants.{Void, DI}
use Rattle.rtx_tree.specs.declared.function.Function.{Function}
use Rattle.rtx_tree.specs.declared.function.Insn.{Insn}
use Rattle.rtx_tree.specs.declared.function.Kind.TheVariants.{Plain}
use Rattle.rtx_tree.specs.declared.tree.Rtx.{Rtx}
use Rattle.rtx_tree.specs.Registers.{pseudo}
use Rattle.rtx_tree.specs.Tree.{node_of, reg_of, const_of}

-- ---- the generator

-- the number behind a number: the linear congruential generator of 64 bits of D. Knuth's MMIX
abbrev pub next_of : ℕ → ℕ
next_of x = sum_of W64 (product_of W64 6364136223846793005 x) 1442695040888963407

-- which of so many numbers stands in a number's bits from one on, counted from 0
unfoldable pub bits_at : ℕ → ℕ → ℕ → ℕ
bits_at first values x = x / 2 ^ first % values

-- ---- the patterns

-- pseudo register k
abbrev pub pseudo_reg : ℕ → Rtx
pseudo_reg k = reg_of DI (pseudo k)

-- a register is set to what a code gives of two operands
abbrev pub set_to : Rtx → Code → Rtx → Rtx → Rtx
set_to target code a b = node_of Set Void (target ∷ node_of code DI (a ∷ b ∷ []) ∷ [])

-- the first settings: pseudo register k is the sum of an argument and k
abbrev pub setting : ℕ → Rtx
setting k = set_to (pseudo_reg k) Plus (reg_of DI (10 + k % 8)) (const_of (pos k))

-- the code of an operation, by three bits
abbrev pub operation_code : ℕ → Code
operation_code n =
    slice_index_or (Plus ∷ Minus ∷ And ∷ Ior ∷ Xor ∷ Mult ∷ Ashift ∷ Lshiftrt ∷ []) n Lshiftrt

-- the second operand of an operation: a register, or the count of a shift
abbrev pub second_operand : ℕ → Rtx
second_operand x =
    if nat_lt (bits_at 61 8 x) 6 then pseudo_reg (bits_at 49 16 x) else const_of (pos (bits_at 43 64 x))

-- the operation that a number picks
abbrev pub operation : ℕ → Rtx
operation x = set_to (pseudo_reg (bits_at 57 16 x)) (operation_code (bits_at 61 8 x)) (pseudo_reg (bits_at 53 16 x)) (second_operand x)

-- so many operations, of the numbers behind one
unfoldable pub operations : ℕ → ℕ → List Rtx
operations x zero = []
operations x (suc count) = operation (next_of x) ∷ operations (next_of x) count

-- the last settings: pseudo register k is added to pseudo register 0
abbrev pub summing : ℕ → Rtx
summing k = set_to (pseudo_reg 0) Plus (pseudo_reg 0) (pseudo_reg k)

-- the result is pseudo register 0
abbrev pub resulting : Rtx
resulting = node_of Set Void (reg_of DI 10 ∷ pseudo_reg 0 ∷ [])

-- so many patterns, of the numbers from one on
unfoldable pub each_from : (ℕ → Rtx) → ℕ → ℕ → List Rtx
each_from pattern k zero = []
each_from pattern k (suc count) = pattern k ∷ each_from pattern (k + 1) count

abbrev pub patterns : ℕ → List Rtx
patterns n = each_from setting 0 16 ++ (operations n n ++ (each_from summing 1 15 ++ resulting ∷ []))

-- ---- the function

-- a plain instruction
abbrev pub plain_insn : ℕ → Rtx → Insn
plain_insn uid x = record { uid = uid; kind = Plain; pattern = x; uses = [] }

-- plain instructions of some patterns, with the uids from one on
unfoldable pub numbered : ℕ → List Rtx → List Insn
numbered uid [] = []
numbered uid (x ∷ xs) = plain_insn uid x ∷ numbered (uid + 1) xs

unfoldable pub made : ℕ → Function
made n = record {
  name = codes "made";
  insns = numbered 1 (patterns n);
  locals = 0;
  result = Some DI;
  result_reg = 10;
}
