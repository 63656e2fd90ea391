-- Comparisons of the plain rows are within the limit on terms.
use Rattle.std.proofs.Common.{◌≡◌, ℕ, suc, ◌==◌, Bool, true, false, if◌then◌else◌, refl, sym, subst}
use Rattle.std.specs.declared.cmp.Ordering.{Ordering}
use Rattle.std.specs.declared.cmp.Ordering.TheVariants.{Less, Equal, Greater}
use Rattle.std.specs.Ordering.{nat_cmp, ordering_then}
use Rattle.std.proofs.lemmas.Cmp.{nat_cmp_total}
use Rattle.bits64.specs.declared.Width.TheVariants.{W64}
use Rattle.bits64.specs.Words.{low}
use Rattle.term_tree.specs.declared.head.Head.TheVariants as heads
use Rattle.term_tree.specs.declared.head.Extension.{Extension}
use Rattle.term_tree.specs.declared.head.Extension.TheVariants.{Zero, Sign}
use Rattle.term_tree.specs.Tree.{Tree}
use Rattle.term_mean.specs.Sums.{constant}
use Rattle.term_mean.specs.Shifts.{two_parts}
use Rattle.term_mean.specs.Masks.{cut_32, made_8, made_32, made_64}
use Rattle.term_mean.specs.Less.{less_unless, less_test, less_than}
use Rattle.term_mean.specs.Zero.{zero_test, equals_zero}
use Rattle.term_mean.specs.Truths.{opposite}
use Rattle.law_plain_terms.specs.Rows.{whole, AreTruths}
use Rattle.law_plain_terms.proofs.Equal.{difference, test, is_test}

-- ---- less and not less, of two registers

abbrev by_order : Extension → Ordering → ℕ → ℕ → Tree
by_order e o a b = less_unless (ordering_then o Equal) (less_test 3) e W64 (whole a) (whole b)

small_truth : (e : Extension) (o : Ordering) (a b : ℕ) → AreTruths (by_order e o a b)
unfolding cut_32
small_truth Sign Less a b = (refl, refl)
small_truth Sign Equal a b = (refl, refl)
small_truth Sign Greater a b = (refl, refl)
small_truth Zero Less a b = (refl, refl)
small_truth Zero Equal a b = (refl, refl)
small_truth Zero Greater a b = (refl, refl)

small_opposite : (e : Extension) (o : Ordering) (a b : ℕ) → AreTruths (opposite (by_order e o a b))
unfolding made_8 made_32 made_64
small_opposite Sign Less a b = (refl, refl)
small_opposite Sign Equal a b = (refl, refl)
small_opposite Sign Greater a b = (refl, refl)
small_opposite Zero Less a b = (refl, refl)
small_opposite Zero Equal a b = (refl, refl)
small_opposite Zero Greater a b = (refl, refl)

pub less : (e : Extension) (a b : ℕ) → AreTruths (less_than e W64 (whole a) (whole b))
unfolding less_test
less e a b = small_truth e (nat_cmp (suc a) (suc b)) a b

pub not_less : (e : Extension) (a b : ℕ) → AreTruths (opposite (less_than e W64 (whole a) (whole b)))
unfolding less_test
not_less e a b = small_opposite e (nat_cmp (suc a) (suc b)) a b

-- ---- of a register and a constant

pub less_constant : (a c : ℕ) → AreTruths (less_than Sign W64 (whole a) (constant W64 c))
unfolding less_test
less_constant a c = (refl, refl)

pub not_less_constant : (a c : ℕ) → AreTruths (opposite (less_than Sign W64 (whole a) (constant W64 c)))
unfolding less_test made_8 made_32 made_64
not_less_constant a c = (refl, refl)

abbrev below : Bool → ℕ → ℕ → Tree
below b a c = if b then equals_zero W64 (whole a) else two_parts heads.Ltu W64 (whole a) (constant W64 c)

small_below : (b : Bool) (a c : ℕ) → AreTruths (below b a c)
unfolding zero_test
small_below true a c = (refl, refl)
small_below false a c = (refl, refl)

small_above : (b : Bool) (a c : ℕ) → AreTruths (opposite (below b a c))
unfolding zero_test made_8 made_32 made_64
small_above true a c = (refl, refl)
small_above false a c = (refl, refl)

pub below_constant : (a c : ℕ) → AreTruths (less_than Zero W64 (whole a) (constant W64 c))
unfolding less_test
below_constant a c = small_below (low W64 (low W64 c) == 1) a c

pub not_below_constant : (a c : ℕ) → AreTruths (opposite (less_than Zero W64 (whole a) (constant W64 c)))
unfolding less_test
not_below_constant a c = small_above (low W64 (low W64 c) == 1) a c

-- ---- for equality

small_test : (o : Ordering) (a b : ℕ) → AreTruths (test o a b)
small_test Less a b = (refl, refl)
small_test Equal a b = (refl, refl)
small_test Greater a b = (refl, refl)

small_differs : (o : Ordering) (a b : ℕ) → AreTruths (opposite (test o a b))
unfolding made_8 made_32 made_64
small_differs Less a b = (refl, refl)
small_differs Equal a b = (refl, refl)
small_differs Greater a b = (refl, refl)

module _ (a b : ℕ) where
  abbrev o : Ordering
  o = nat_cmp (suc b) (suc a)

  tests : equals_zero W64 (difference o a b) ≡ test o a b
  tests = is_test o a b refl (nat_cmp_total.antisymm (suc a) (suc b))

  pub equal : AreTruths (equals_zero W64 (difference o a b))
  equal = subst AreTruths (sym tests) (small_test o a b)

  pub not_equal : AreTruths (opposite (equals_zero W64 (difference o a b)))
  not_equal = subst (λ t. AreTruths (opposite t)) (sym tests) (small_differs o a b)
