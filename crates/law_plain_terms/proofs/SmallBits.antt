-- Operators on bits of the plain rows are within the limit on terms.
use Rattle.std.proofs.Common.{ℕ, ◌-◌, ◌^◌, ◌==◌, Bool, true, false, if◌then◌else◌, Option, Some, None, refl, [], ◌∷◌}
use Rattle.std.specs.declared.cmp.Ordering.{Ordering}
use Rattle.std.specs.declared.cmp.Ordering.TheVariants.{Less, Equal, Greater}
use Rattle.bits64.specs.declared.Width.{Width}
use Rattle.bits64.specs.declared.Width.TheVariants.{W8, W16, W32, W64}
use Rattle.bits64.specs.Words.{low}
use Rattle.term_tree.specs.declared.head.Joint.{Joint}
use Rattle.term_tree.specs.declared.head.Joint.TheVariants.{Mul, And, Ior, Xor}
use Rattle.term_tree.specs.Tree.{Tree}
use Rattle.term_tree.specs.Order.{tree_cmp}
use Rattle.term_mean.specs.Sums.{constant}
use Rattle.term_mean.specs.Joints.{plain, put, with_constant, join, start}
use Rattle.term_mean.specs.Masks.{cut_8, cut_16, cut_32, made_32, made_64, masked, narrow_32, narrow_64}
use Rattle.law_plain_terms.specs.Rows.{part, whole, IsSmall}

-- ---- two registers, by their order

abbrev joined_32 : Joint → Ordering → ℕ → ℕ → Tree
joined_32 j o a b = plain j W32 (put j o (part W32 b) (part W32 a) [] (part W32 b ∷ []))

abbrev joined_64 : Joint → Ordering → ℕ → ℕ → Tree
joined_64 j o a b = plain j W64 (put j o (whole b) (whole a) [] (whole b ∷ []))

small_32 : (j : Joint) (o : Ordering) (a b : ℕ) → IsSmall (joined_32 j o a b)
unfolding cut_32
small_32 Mul Less a b = refl
small_32 And Less a b = refl
small_32 Ior Less a b = refl
small_32 Xor Less a b = refl
small_32 Mul Equal a b = refl
small_32 And Equal a b = refl
small_32 Ior Equal a b = refl
small_32 Xor Equal a b = refl
small_32 Mul Greater a b = refl
small_32 And Greater a b = refl
small_32 Ior Greater a b = refl
small_32 Xor Greater a b = refl

small_64 : (j : Joint) (o : Ordering) (a b : ℕ) → IsSmall (joined_64 j o a b)
small_64 Mul Less a b = refl
small_64 And Less a b = refl
small_64 Ior Less a b = refl
small_64 Xor Less a b = refl
small_64 Mul Equal a b = refl
small_64 And Equal a b = refl
small_64 Ior Equal a b = refl
small_64 Xor Equal a b = refl
small_64 Mul Greater a b = refl
small_64 And Greater a b = refl
small_64 Ior Greater a b = refl
small_64 Xor Greater a b = refl

pub and_32 : (a b : ℕ) → IsSmall (made_32 And (part W32 a ∷ part W32 b ∷ []))
unfolding cut_32 made_32
and_32 a b = small_32 And (tree_cmp (part W32 b) (part W32 a)) a b

pub or_32 : (a b : ℕ) → IsSmall (made_32 Ior (part W32 a ∷ part W32 b ∷ []))
unfolding cut_32 made_32
or_32 a b = small_32 Ior (tree_cmp (part W32 b) (part W32 a)) a b

pub xor_32 : (a b : ℕ) → IsSmall (made_32 Xor (part W32 a ∷ part W32 b ∷ []))
unfolding cut_32 made_32
xor_32 a b = small_32 Xor (tree_cmp (part W32 b) (part W32 a)) a b

pub and_64 : (a b : ℕ) → IsSmall (made_64 And (whole a ∷ whole b ∷ []))
unfolding made_64
and_64 a b = small_64 And (tree_cmp (whole b) (whole a)) a b

pub or_64 : (a b : ℕ) → IsSmall (made_64 Ior (whole a ∷ whole b ∷ []))
unfolding made_64
or_64 a b = small_64 Ior (tree_cmp (whole b) (whole a)) a b

pub xor_64 : (a b : ℕ) → IsSmall (made_64 Xor (whole a ∷ whole b ∷ []))
unfolding made_64
xor_64 a b = small_64 Xor (tree_cmp (whole b) (whole a)) a b

-- ---- a register and a constant, by what the constant is

abbrev finished_by : Joint → Width → Bool → Bool → ℕ → Tree → Tree
finished_by j w x y n t = if x then constant w n else (if y then plain j w (t ∷ []) else with_constant j w n (t ∷ []))

abbrev mask_64 : Bool → Bool → Bool → Option Width
mask_64 p q r = if p then Some W8 else (if q then Some W16 else (if r then Some W32 else None))

abbrev mask_32 : Bool → Bool → Option Width
mask_32 p q = if p then Some W8 else (if q then Some W16 else None)

or_constant_64 : (x y : Bool) (n a : ℕ) → IsSmall (finished_by Ior W64 x y n (whole a))
or_constant_64 true y n a = refl
or_constant_64 false true n a = refl
or_constant_64 false false n a = refl

xor_constant_64 : (y : Bool) (n a : ℕ) → IsSmall (finished_by Xor W64 false y n (whole a))
xor_constant_64 true n a = refl
xor_constant_64 false n a = refl

and_constant_64 : (x y : Bool) (n a : ℕ) → IsSmall (finished_by And W64 x y n (whole a))
and_constant_64 true y n a = refl
and_constant_64 false true n a = refl
and_constant_64 false false n a = refl

and_masked_64 : (p q r : Bool) (n a : ℕ) → IsSmall (masked (mask_64 p q r) narrow_64 W64 n (whole a ∷ []))
unfolding cut_8 cut_16 cut_32
and_masked_64 true q r n a = refl
and_masked_64 false true r n a = refl
and_masked_64 false false true n a = refl
and_masked_64 false false false n a = and_constant_64 (n == 0) (n == 2 ^ 64 - 1) n a

or_constant_32 : (x y : Bool) (n a : ℕ) → IsSmall (finished_by Ior W32 x y n (part W32 a))
unfolding cut_32
or_constant_32 true y n a = refl
or_constant_32 false true n a = refl
or_constant_32 false false n a = refl

xor_constant_32 : (y : Bool) (n a : ℕ) → IsSmall (finished_by Xor W32 false y n (part W32 a))
unfolding cut_32
xor_constant_32 true n a = refl
xor_constant_32 false n a = refl

and_constant_32 : (x y : Bool) (n a : ℕ) → IsSmall (finished_by And W32 x y n (part W32 a))
unfolding cut_32
and_constant_32 true y n a = refl
and_constant_32 false true n a = refl
and_constant_32 false false n a = refl

and_masked_32 : (p q : Bool) (n a : ℕ) → IsSmall (masked (mask_32 p q) narrow_32 W32 n (part W32 a ∷ []))
unfolding cut_8 cut_16 cut_32
and_masked_32 true q n a = refl
and_masked_32 false true n a = refl
and_masked_32 false false n a = and_constant_32 (n == 0) (n == 2 ^ 32 - 1) n a

-- the constant, gathered
abbrev number : Joint → Width → ℕ → ℕ
number j w c = low w (join j (low w (low w c)) (start j))

pub andi_64 : (a c : ℕ) → IsSmall (made_64 And (whole a ∷ constant W64 c ∷ []))
unfolding made_64
andi_64 a c = let n = number And W64 c in and_masked_64 (n == 2 ^ 8 - 1) (n == 2 ^ 16 - 1) (n == 2 ^ 32 - 1) n a

pub ori_64 : (a c : ℕ) → IsSmall (made_64 Ior (whole a ∷ constant W64 c ∷ []))
unfolding made_64
ori_64 a c = let n = number Ior W64 c in or_constant_64 (n == 2 ^ 64 - 1) (n == 0) n a

pub xori_64 : (a c : ℕ) → IsSmall (made_64 Xor (whole a ∷ constant W64 c ∷ []))
unfolding made_64
xori_64 a c = let n = number Xor W64 c in xor_constant_64 (n == 0) n a

pub andi_32 : (a c : ℕ) → IsSmall (made_32 And (part W32 a ∷ constant W32 c ∷ []))
unfolding cut_32 made_32
andi_32 a c = let n = number And W32 c in and_masked_32 (n == 2 ^ 8 - 1) (n == 2 ^ 16 - 1) n a

pub ori_32 : (a c : ℕ) → IsSmall (made_32 Ior (part W32 a ∷ constant W32 c ∷ []))
unfolding cut_32 made_32
ori_32 a c = let n = number Ior W32 c in or_constant_32 (n == 2 ^ 32 - 1) (n == 0) n a

pub xori_32 : (a c : ℕ) → IsSmall (made_32 Xor (part W32 a ∷ constant W32 c ∷ []))
unfolding cut_32 made_32
xori_32 a c = let n = number Xor W32 c in xor_constant_32 (n == 0) n a
