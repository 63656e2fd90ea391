-- Comparisons for equality: a difference, and whether it is 0.
use Rattle.std.proofs.Common.{◌≡◌, ℕ, suc, refl, sym, ap, ◌∙◌, [], ◌∷◌}
use Rattle.std.specs.declared.cmp.Ordering.{Ordering}
use Rattle.std.specs.declared.cmp.Ordering.TheVariants.{Less, Equal, Greater}
use Rattle.std.specs.Ordering.{nat_cmp, ordering_then, ordering_reverse}
use Rattle.std.proofs.lemmas.Cmp.{nat_cmp_total}
use Rattle.bits64.specs.declared.Width.{Width}
use Rattle.bits64.specs.declared.Width.TheVariants.{W8, W32, W64}
use Rattle.bits64.specs.declared.operator.Operator.TheVariants as operators
use Rattle.bits64.specs.declared.operator.Relation.TheVariants as relation
use Rattle.rtx_tree.specs.declared.code.Code.TheVariants as code
use Rattle.term_tree.specs.declared.head.Head.TheVariants as heads
use Rattle.term_tree.specs.Tree.{Tree}
use Rattle.term_tree.specs.Order.{numbers_cmp}
use Rattle.term_mean.specs.Sums.{constant, sum, placed}
use Rattle.term_mean.specs.Masks.{cut_32, made_8, made_32, made_64}
use Rattle.term_mean.specs.Less.{less_than, less_test}
use Rattle.term_mean.specs.Zero.{zero_test, zero_chosen, equals_zero, first_of, numbers_of}
use Rattle.term_mean.specs.Cuts.{one_part}
use Rattle.term_mean.specs.Truths.{opposite}
use Rattle.term_mean.specs.Compared.{low_bits}
use Rattle.term_tree.specs.declared.head.Extension.TheVariants.{Zero}
use Rattle.law_plain_terms.proofs.Back.{in_64, in_32, whole_truth}
use Rattle.law_plain_terms.proofs.Sums.{sub_64}
use Rattle.sym_state.specs.Makers.{minus_one}
use Rattle.law_plain_terms.specs.Rows.{whole, line, truth}

-- ---- the difference of two registers, by the order of their numbers

abbrev pub difference : Ordering → ℕ → ℕ → Tree
difference o a b = sum W64 0 (placed (ordering_then o Equal) W64 (minus_one W64) (whole b) (1, whole a) [] ((minus_one W64, whole b) ∷ []))

-- whether it is 0: the test of the difference whose first coefficient is 1
abbrev pub test : Ordering → ℕ → ℕ → Tree
test Less a b = one_part heads.Eq W64 (difference Greater b a)
test Equal a b = constant W8 1
test Greater a b = one_part heads.Eq W64 (difference Greater a b)

-- the test, where the difference the other way round stands in an order
abbrev tested : Tree → Tree → Tree
tested d other = zero_chosen (zero_test 2) W64 (first_of (numbers_cmp (numbers_of W64 d) (numbers_of W64 other)) d other)

pub is_test : (o : Ordering) (a b : ℕ) → nat_cmp (suc b) (suc a) ≡ o → nat_cmp (suc a) (suc b) ≡ ordering_reverse o →
    equals_zero W64 (difference o a b) ≡ test o a b
unfolding zero_test
is_test Less a b e r = ap (λ p. tested (difference Less a b) (difference p b a)) r
is_test Equal a b e r = refl
is_test Greater a b e r = ap (λ p. tested (difference Greater a b) (sum W64 0 (placed (ordering_then p Equal) W64 1 (whole b) (minus_one W64, whole a) [] ((1, whole b) ∷ [])))) e

-- ---- the test, made by a comparison of the difference with 1 or with 0

zero_is_zero : equals_zero W64 (constant W64 0) ≡ constant W8 1
unfolding zero_test
zero_is_zero = refl

is_below : (o : Ordering) (a b : ℕ) → less_than Zero W64 (difference o a b) (constant W64 1) ≡ equals_zero W64 (difference o a b)
unfolding less_test
is_below Less a b = refl
is_below Equal a b = sym zero_is_zero
is_below Greater a b = refl

-- 0 is not above 0
none_above : less_than Zero W64 (constant W64 0) (constant W64 0) ≡ opposite (equals_zero W64 (constant W64 0))
unfolding less_test zero_test made_8
none_above = refl

is_above : (o : Ordering) (a b : ℕ) → less_than Zero W64 (constant W64 0) (difference o a b) ≡ opposite (equals_zero W64 (difference o a b))
unfolding less_test
is_above Less a b = refl
is_above Equal a b = none_above
is_above Greater a b = refl

-- ---- the truth of 64 bits, cut to 32

cut_test : (o : Ordering) (a b : ℕ) → low_bits W32 (in_64 (test o a b)) ≡ in_32 (test o a b)
unfolding cut_32
cut_test Less a b = refl
cut_test Equal a b = refl
cut_test Greater a b = refl

cut_opposite : (o : Ordering) (a b : ℕ) → low_bits W32 (in_64 (opposite (test o a b))) ≡ in_32 (opposite (test o a b))
unfolding cut_32 made_8 made_32 made_64
cut_opposite Less a b = refl
cut_opposite Equal a b = refl
cut_opposite Greater a b = refl

-- ---- the rows: two lines, of which the second tests the first's difference

module _ (a b : ℕ) where
  -- the order of the two, and the difference
  abbrev o : Ordering
  o = nat_cmp (suc b) (suc a)

  abbrev d : Tree
  d = difference o a b

  tests : equals_zero W64 d ≡ test o a b
  tests = is_test o a b refl (nat_cmp_total.antisymm (suc a) (suc b))

  below : (w : Width) → low_bits w (line (operators.Test relation.Ltu) (line operators.Sub (whole a) (whole b)) (constant W64 1)) ≡ low_bits w (in_64 (equals_zero W64 d))
  below w = ap (λ t. low_bits w (in_64 (less_than Zero W64 t (constant W64 1)))) (sub_64 a b) ∙ ap (λ t. low_bits w (in_64 t)) (is_below o a b)

  above : (w : Width) → low_bits w (line (operators.Test relation.Ltu) (constant W64 0) (line operators.Sub (whole a) (whole b))) ≡ low_bits w (in_64 (opposite (equals_zero W64 d)))
  above w = ap (λ t. low_bits w (in_64 (less_than Zero W64 (constant W64 0) t))) (sub_64 a b) ∙ ap (λ t. low_bits w (in_64 t)) (is_above o a b)

  pub seq_64 : low_bits W64 (line (operators.Test relation.Ltu) (line operators.Sub (whole a) (whole b)) (constant W64 1)) ≡ truth code.Eq W64 (whole a) (whole b)
  seq_64 = below W64 ∙ whole_truth (equals_zero W64 d)

  pub seq_32 : low_bits W32 (line (operators.Test relation.Ltu) (line operators.Sub (whole a) (whole b)) (constant W64 1)) ≡ truth code.Eq W32 (whole a) (whole b)
  seq_32 = below W32 ∙ (ap (λ t. low_bits W32 (in_64 t)) tests ∙ (cut_test o a b ∙ ap in_32 (sym tests)))

  pub sne_64 : low_bits W64 (line (operators.Test relation.Ltu) (constant W64 0) (line operators.Sub (whole a) (whole b))) ≡ truth code.Ne W64 (whole a) (whole b)
  sne_64 = above W64 ∙ whole_truth (opposite (equals_zero W64 d))

  pub sne_32 : low_bits W32 (line (operators.Test relation.Ltu) (constant W64 0) (line operators.Sub (whole a) (whole b))) ≡ truth code.Ne W32 (whole a) (whole b)
  sne_32 = above W32 ∙ (ap (λ t. low_bits W32 (in_64 (opposite t))) tests ∙ (cut_opposite o a b ∙ ap (λ t. in_32 (opposite t)) (sym tests)))
