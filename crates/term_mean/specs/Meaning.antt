-- The number of a term.
use Rattle.std.specs.Prelude.{ℕ, zero, suc, List, [], ◌∷◌, ◌+◌, ◌-◌, ◌*◌, ◌%◌, ◌^◌, ◌==◌, bit_and, bit_or, bit_xor}
use Rattle.bits64.specs.declared.Width.{Width}
use Rattle.bits64.specs.Operators.{opaque_number}
pub use Rattle.bits64.specs.Operators.{truth}
use Rattle.bits64.specs.Words.{bytes_of, low, shifted_left, shifted_right, shifted_arithmetic, sign_extended, zero_extended, less_signed, less_unsigned}
use Rattle.term_tree.specs.declared.head.Head.{Head}
use Rattle.term_tree.specs.declared.head.Head.TheVariants.{Reg, Sym, Mul, Opaque, And, Ior, Xor, Shl, Shr, Sar, Trunc, Zext, Sext, Lt, Ltu, Eq, Load}
use Rattle.term_tree.specs.Tree.{Tree, Atoms, Trees, Sum, Node, no_atoms, atom, no_trees, tree, own_width, width_of}

-- what registers and symbols are, and the byte at each address of each memory: memory 0 is that of
-- the beginning
pub record Valuation : Type 0 where
  pub reg : ℕ → ℕ
  pub sym : List ℕ → ℕ
  pub memory : ℕ → ℕ → ℕ

-- the number of so many bytes from an address on, the lowest first; addresses have 64 bits
abbrev pub bytes_at : (ℕ → ℕ) → ℕ → ℕ → ℕ
bytes_at m zero a = 0
bytes_at m (suc k) a = m (a % 2 ^ 64) % 256 + 256 * bytes_at m k (a + 1)

-- a part's width and number
abbrev pub Value : Type 0
Value = Width × ℕ

abbrev pub on_one : List Value → (Width → ℕ → ℕ) → ℕ
on_one (a ∷ []) f = f a.0 a.1
on_one _ f = 0

abbrev pub on_two : List Value → (ℕ → ℕ → ℕ) → ℕ
on_two (a ∷ b ∷ []) f = f a.1 b.1
on_two _ f = 0

-- of one part with 0, or of two
abbrev pub on_parts : List Value → (ℕ → ℕ → ℕ) → ℕ
on_parts (a ∷ []) f = f a.1 0
on_parts (a ∷ b ∷ []) f = f a.1 b.1
on_parts _ f = 0

-- an operator over all parts, from the number that changes nothing
abbrev pub over_all : (ℕ → ℕ → ℕ) → ℕ → List Value → ℕ
over_all f z [] = z
over_all f z (x ∷ xs) = f x.1 (over_all f z xs)

-- the number of an operation on numbers, before it is cut to its width
abbrev pub operation : Head → Width → List Value → ℕ
operation Mul w xs = over_all ◌*◌ 1 xs
operation (Opaque o) w xs = on_parts xs (opaque_number o w)
operation And w xs = over_all bit_and (2 ^ 64 - 1) xs
operation Ior w xs = over_all bit_or 0 xs
operation Xor w xs = over_all bit_xor 0 xs
operation Shl w xs = on_two xs (shifted_left w)
operation Shr w xs = on_two xs (shifted_right w)
operation Sar w xs = on_two xs (shifted_arithmetic w)
operation Trunc w xs = on_one xs (λ from a. a)
operation Zext w xs = on_one xs (λ from a. zero_extended from a)
operation Sext w xs = on_one xs (λ from a. sign_extended from a)
operation Lt w xs = on_two xs (λ a b. truth (less_signed w a b))
operation Ltu w xs = on_two xs (λ a b. truth (less_unsigned w a b))
operation Eq w xs = on_one xs (λ from a. truth (low w a == 0))
operation _ w xs = 0

-- the number of a node, before it is cut
abbrev pub applied : Valuation → Head → Width → ℕ → List ℕ → List Value → ℕ
applied v Reg w n s xs = v.reg n
applied v Sym w n s xs = v.sym s
applied v Load w n s xs = on_one xs (λ from a. bytes_at (v.memory n) (bytes_of w) a)
applied v h w n s xs = operation h w xs

abbrev mutual
  pub mean : Valuation → Tree → ℕ
  mean v (Sum w c xs) = low w (c + weighed v xs)
  mean v (Node h w n s ps) = low (own_width h w) (applied v h w n s (values v ps))

  pub weighed : Valuation → Atoms → ℕ
  weighed v no_atoms = 0
  weighed v (atom k t xs) = k * mean v t + weighed v xs

  pub values : Valuation → Trees → List Value
  values v no_trees = []
  values v (tree t ts) = (width_of t, mean v t) ∷ values v ts
