-- Constants, shift counts and exact shifts: what the rules make of them has their number.
use Rattle.std.proofs.Common.{◌≡◌, ℕ, ◌*◌, ◌/◌, ◌%◌, ◌^◌, refl, sym, ◌∙◌, ap, arith, Option, Some, None, ◌⊎◌, inl, inr}
use Rattle.std.specs.Int.{int_shr}
use Rattle.std.proofs.Math.Nat.{mod-mod}
use Rattle.bits64.specs.declared.Width.{Width}
use Rattle.bits64.specs.declared.Width.TheVariants.{W8, W16, W32, W64}
use Rattle.bits64.specs.declared.operator.Opaque.{Opaque}
use Rattle.bits64.specs.declared.operator.Taking.{Taking}
use Rattle.bits64.specs.declared.operator.Taking.TheVariants.{Alone, Pair, Counted}
use Rattle.bits64.specs.Operators.{opaque_taking, opaque_number}
use Rattle.bits64.proofs.Operators.{opaque_counted}
use Rattle.bits64.specs.Words.{bits_of, low, signed, wrapped, shifted_left, shifted_right, shifted_arithmetic}
use Rattle.term_tree.specs.declared.head.Head.{Head}
use Rattle.term_tree.specs.declared.head.Head.TheVariants as heads
use Rattle.term_tree.specs.Tree.{Tree, Sum, Node, no_atoms, atom, own_width}
use Rattle.term_mean.specs.Meaning.{Valuation, mean}
use Rattle.term_mean.specs.Sums.{constant, constant_in, times}
use Rattle.term_mean.specs.Masks.{low_8}
use Rattle.term_mean.specs.Shifts.{two_parts, binary_number, on_constant, on_constants, opaque_one, plain_two, opaque_two}
use Rattle.term_mean.proofs.SumLaws.{mean-constant, mean-times}
use Rattle.term_mean.proofs.JoinLaws.{low_plus_zero}
use Rattle.term_mean.proofs.MaskLaws.{is-low_8}

-- ---- constants
pub constant-is : (v : Valuation) (t : Tree) (c : ℕ) → constant_in t ≡ Some c → mean v t ≡ c
constant-is v (Sum u d no_atoms) c e = low_plus_zero u d ∙ (let f : low u d ≡ c = cc in f)
constant-is v (Sum u d (atom k t xs)) c e = cc
constant-is v (Node h u n s ps) c e = cc

-- an operation on two constants
pub mean-on_constants : (v : Valuation) (h : Head) (w : Width) (a b other : Tree) (n : ℕ) → mean v other ≡ n → n ≡ low (own_width h w) (binary_number h w (mean v a) (mean v b)) → mean v (on_constants (constant_in a) (constant_in b) h w other) ≡ n
mean-on_constants v h w a b other n p q = go (constant_in a) refl (constant_in b) refl
  where
    go : (x : Option ℕ) → constant_in a ≡ x → (y : Option ℕ) → constant_in b ≡ y → mean v (on_constants x y h w other) ≡ n
    go (Some x) e (Some y) f =
        mean-constant v (own_width h w) (binary_number h w x y)
        ∙ ap (λ z. low (own_width h w) (binary_number h w z y)) (sym (constant-is v a x e))
        ∙ ap (λ z. low (own_width h w) (binary_number h w (mean v a) z)) (sym (constant-is v b y f))
        ∙ sym q
    go (Some x) e None f = p
    go None e y f = p

-- ---- counts
pub count-cut : (w : Width) (n : ℕ) → low W8 n % bits_of w ≡ n % bits_of w
count-cut W8 n = omega arith
count-cut W16 n = omega arith
count-cut W32 n = omega arith
count-cut W64 n = omega arith

-- ---- operators of which nothing is known but their numbers
pub mean-opaque_one : (v : Valuation) (o : Opaque) (w : Width) (a : Tree) → mean v (opaque_one o w a) ≡ low w (opaque_number o w (mean v a) 0)
mean-opaque_one v o w a = go (constant_in a) refl
  where
    go : (x : Option ℕ) → constant_in a ≡ x → mean v (on_constant x o w a) ≡ low w (opaque_number o w (mean v a) 0)
    go (Some x) e =
        mean-constant v w (opaque_number o w x 0)
        ∙ ap (λ z. low w (opaque_number o w z 0)) (sym (constant-is v a x e))
    go None e = refl

mean-plain_two : (v : Valuation) (o : Opaque) (w : Width) (a b : Tree) → mean v (plain_two o w a b) ≡ low w (opaque_number o w (mean v a) (mean v b))
mean-plain_two v o w a b = mean-on_constants v (heads.Opaque o) w a b (two_parts (heads.Opaque o) w a b) _ refl refl

pub mean-opaque_two : (v : Valuation) (o : Opaque) (w : Width) (a b : Tree) → mean v (opaque_two (opaque_taking o) o w a b) ≡ low w (opaque_number o w (mean v a) (mean v b))
mean-opaque_two v o w a b = go (opaque_taking o) refl
  where
    go : (t : Taking) → opaque_taking o ≡ t → mean v (opaque_two t o w a b) ≡ low w (opaque_number o w (mean v a) (mean v b))
    go Alone is = mean-plain_two v o w a b
    go Pair is = mean-plain_two v o w a b
    go Counted is =
        let count : mean v (low_8 b) % bits_of w ≡ mean v b % bits_of w = ap (λ n. n % bits_of w) (is-low_8 v b).0 ∙ count-cut w (mean v b) in
        mean-plain_two v o w a (low_8 b) ∙ ap (low w) (opaque_counted o w (mean v a) (mean v (low_8 b)) (mean v b) is count)

-- the number of a shift, by its head
abbrev pub shift_number : Head → Width → ℕ → ℕ → ℕ
shift_number h w x k = binary_number h w x k

-- the heads that shift
abbrev pub IsShift : Head → Type 0
IsShift h = (h ≡ heads.Shl) ⊎ ((h ≡ heads.Shr) ⊎ (h ≡ heads.Sar))

-- counts that are one modulo the width shift alike
pub same-count : (h : Head) → IsShift h → (w : Width) (x k j : ℕ) → k % bits_of w ≡ j % bits_of w → shift_number h w x k ≡ shift_number h w x j
same-count h (inl s) w x k j e = rw s (ap (λ n. (x * 2 ^ n) % 2 ^ bits_of w) e)
same-count h (inr (inl s)) w x k j e = rw s (ap (λ n. low w x / 2 ^ n) e)
same-count h (inr (inr s)) w x k j e = rw s (ap (λ n. wrapped w (int_shr (signed w x) n)) e)

pub mean-two_parts : (v : Valuation) (h : Head) → IsShift h → (w : Width) (a b : Tree) → mean v (two_parts h w a b) ≡ low w (shift_number h w (mean v a) (mean v b))
mean-two_parts v h (inl s) w a b = rw s refl
mean-two_parts v h (inr (inl s)) w a b = rw s refl
mean-two_parts v h (inr (inr s)) w a b = rw s refl

-- a count as a constant of 8 bits
pub mean-counted : (v : Valuation) (h : Head) → IsShift h → (w : Width) (a : Tree) (k : ℕ) → mean v (two_parts h w a (constant W8 k)) ≡ low w (shift_number h w (mean v a) k)
mean-counted v h s w a k =
    let count : mean v (constant W8 k) % bits_of w ≡ k % bits_of w = ap (λ n. n % bits_of w) (mean-constant v W8 k) ∙ count-cut w k in
    mean-two_parts v h s w a (constant W8 k) ∙ ap (low w) (same-count h s w (mean v a) (mean v (constant W8 k)) k count)

-- ---- a shift by 0
left-zero : (w : Width) (x : ℕ) → low w (shifted_left w x 0) ≡ low w x
left-zero W8 x = grind arith
left-zero W16 x = grind arith
left-zero W32 x = grind arith
left-zero W64 x = grind arith

right-zero : (w : Width) (x : ℕ) → low w (shifted_right w x 0) ≡ low w x
right-zero W8 x = grind arith
right-zero W16 x = grind arith
right-zero W32 x = grind arith
right-zero W64 x = grind arith

arithmetic-zero : (w : Width) (x : ℕ) → low w (shifted_arithmetic w x 0) ≡ low w x
arithmetic-zero W8 x = grind arith
arithmetic-zero W16 x = grind arith
arithmetic-zero W32 x = grind arith
arithmetic-zero W64 x = grind arith

pub shift-zero : (h : Head) → IsShift h → (w : Width) (x : ℕ) → low w (shift_number h w x 0) ≡ low w x
shift-zero h (inl s) w x = rw s (left-zero w x)
shift-zero h (inr (inl s)) w x = rw s (right-zero w x)
shift-zero h (inr (inr s)) w x = rw s (arithmetic-zero w x)

-- ---- a shift to the left
pub mean-left : (v : Valuation) (w : Width) (a : Tree) (k : ℕ) → k % bits_of w ≡ k → mean v (times w (2 ^ k) a) ≡ low w (shifted_left w (mean v a) k)
mean-left v w a k e =
    let x : ℕ = mean v a in
    let swap : 2 ^ k * x ≡ x * 2 ^ k = omega arith in
    mean-times v w (2 ^ k) a ∙ ap (low w) (swap ∙ ap (λ n. x * 2 ^ n) (sym e)) ∙ sym (mod-mod (x * 2 ^ (k % bits_of w)) (2 ^ bits_of w))
