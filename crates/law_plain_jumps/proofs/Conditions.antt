-- The conditions under which branches lead to their labels are within the limit on terms.
use Rattle.std.proofs.Common.{ℕ, suc, refl, sym, subst}
use Rattle.std.specs.declared.cmp.Ordering.{Ordering}
use Rattle.std.specs.declared.cmp.Ordering.TheVariants.{Less, Equal, Greater}
use Rattle.std.specs.Ordering.{nat_cmp, ordering_then}
use Rattle.std.proofs.lemmas.Cmp.{nat_cmp_total}
use Rattle.bits64.specs.declared.Width.TheVariants.{W64}
use Rattle.bits64.specs.declared.operator.Relation.{Relation}
use Rattle.bits64.specs.declared.operator.Relation.TheVariants as relation
use Rattle.term_tree.specs.declared.head.Extension.{Extension}
use Rattle.term_tree.specs.declared.head.Extension.TheVariants.{Zero, Sign}
use Rattle.term_tree.specs.Tree.{Tree}
use Rattle.term_mean.specs.Sums.{constant}
use Rattle.term_mean.specs.Masks.{made_8}
use Rattle.term_mean.specs.Less.{less_unless, less_test, less_than}
use Rattle.term_mean.specs.Zero.{zero_test}
use Rattle.term_mean.specs.Truths.{opposite}
use Rattle.term_mean.specs.Compared.{compared, same_in}
use Rattle.law_plain_terms.specs.Rows.{whole, IsSmall}
use Rattle.law_plain_terms.proofs.Equal.{test, is_test}

-- a truth and its opposite
abbrev AreSmall : Tree → Type 0
AreSmall t = IsSmall t × IsSmall (opposite t)

-- ---- two registers

abbrev by_order : Extension → Ordering → ℕ → ℕ → Tree
by_order e o a b = less_unless (ordering_then o Equal) (less_test 3) e W64 (whole a) (whole b)

ordered : (e : Extension) (o : Ordering) (a b : ℕ) → AreSmall (by_order e o a b)
unfolding made_8
ordered Sign Less a b = (refl, refl)
ordered Sign Equal a b = (refl, refl)
ordered Sign Greater a b = (refl, refl)
ordered Zero Less a b = (refl, refl)
ordered Zero Equal a b = (refl, refl)
ordered Zero Greater a b = (refl, refl)

less : (e : Extension) (a b : ℕ) → AreSmall (less_than e W64 (whole a) (whole b))
unfolding less_test
less e a b = ordered e (nat_cmp (suc a) (suc b)) a b

tested : (o : Ordering) (a b : ℕ) → AreSmall (test o a b)
unfolding made_8
tested Less a b = (refl, refl)
tested Equal a b = (refl, refl)
tested Greater a b = (refl, refl)

same : (a b : ℕ) → AreSmall (same_in W64 (whole a) (whole b))
same a b = let o = nat_cmp (suc b) (suc a) in subst AreSmall (sym (is_test o a b refl (nat_cmp_total.antisymm (suc a) (suc b)))) (tested o a b)

pub small_condition : (r : Relation) (a b : ℕ) → IsSmall (compared r W64 (whole a) (whole b))
small_condition relation.Eq a b = (same a b).0
small_condition relation.Ne a b = (same a b).1
small_condition relation.Lt a b = (less Sign a b).0
small_condition relation.Gt a b = (less Sign b a).0
small_condition relation.Le a b = (less Sign b a).1
small_condition relation.Ge a b = (less Sign a b).1
small_condition relation.Ltu a b = (less Zero a b).0
small_condition relation.Gtu a b = (less Zero b a).0
small_condition relation.Leu a b = (less Zero b a).1
small_condition relation.Geu a b = (less Zero a b).1

-- ---- a register and 0

less_zero : (e : Extension) (a : ℕ) → AreSmall (less_than e W64 (whole a) (constant W64 0))
unfolding less_test zero_test made_8
less_zero Sign a = (refl, refl)
less_zero Zero a = (refl, refl)

above_zero : (e : Extension) (a : ℕ) → AreSmall (less_than e W64 (constant W64 0) (whole a))
unfolding less_test zero_test made_8
above_zero Sign a = (refl, refl)
above_zero Zero a = (refl, refl)

is_zero : (a : ℕ) → AreSmall (same_in W64 (whole a) (constant W64 0))
unfolding zero_test made_8
is_zero a = (refl, refl)

pub small_with_zero : (r : Relation) (a : ℕ) → IsSmall (compared r W64 (whole a) (constant W64 0))
small_with_zero relation.Eq a = (is_zero a).0
small_with_zero relation.Ne a = (is_zero a).1
small_with_zero relation.Lt a = (less_zero Sign a).0
small_with_zero relation.Gt a = (above_zero Sign a).0
small_with_zero relation.Le a = (above_zero Sign a).1
small_with_zero relation.Ge a = (less_zero Sign a).1
small_with_zero relation.Ltu a = (less_zero Zero a).0
small_with_zero relation.Gtu a = (above_zero Zero a).0
small_with_zero relation.Leu a = (above_zero Zero a).1
small_with_zero relation.Geu a = (less_zero Zero a).1
