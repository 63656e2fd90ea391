-- Comparisons of a register with a constant: less, and not less.
use Rattle.std.proofs.Common.{◌≡◌, ℕ, ◌==◌, Bool, true, false, if◌then◌else◌, refl}
use Rattle.bits64.specs.declared.Width.TheVariants.{W32, W64}
use Rattle.bits64.specs.Words.{low}
use Rattle.bits64.specs.declared.operator.Operator.TheVariants as operators
use Rattle.bits64.specs.declared.operator.Relation.TheVariants as relation
use Rattle.rtx_tree.specs.declared.code.Code.TheVariants as code
use Rattle.term_tree.specs.declared.head.Head.TheVariants as heads
use Rattle.term_tree.specs.Tree.{Tree}
use Rattle.term_mean.specs.Sums.{constant}
use Rattle.term_mean.specs.Masks.{cut_32, made_8, made_32, made_64}
use Rattle.term_mean.specs.Shifts.{two_parts}
use Rattle.term_mean.specs.Less.{less_test}
use Rattle.term_mean.specs.Zero.{zero_test, equals_zero}
use Rattle.term_mean.specs.Truths.{opposite}
use Rattle.term_mean.specs.Compared.{low_bits}
use Rattle.law_plain_terms.proofs.Back.{in_64, in_32}
use Rattle.law_plain_terms.specs.Rows.{whole, reversed, Compares, Reverses}

pub slti_64 : (a c : ℕ) → Compares (operators.Test relation.Lt) code.Lt W64 (whole a) (constant W64 c)
unfolding less_test
slti_64 a c = refl

pub slti_32 : (a c : ℕ) → Compares (operators.Test relation.Lt) code.Lt W32 (whole a) (constant W64 c)
unfolding less_test cut_32
slti_32 a c = refl

pub sgei_64 : (a c : ℕ) → Reverses (operators.Test relation.Lt) code.Ge W64 (whole a) (constant W64 c)
unfolding less_test made_8 made_64
sgei_64 a c = refl

pub sgei_32 : (a c : ℕ) → Reverses (operators.Test relation.Lt) code.Ge W32 (whole a) (constant W64 c)
unfolding less_test cut_32 made_8 made_32 made_64
sgei_32 a c = refl

-- ---- unsigned: less than 1 is 0

abbrev below : Bool → ℕ → ℕ → Tree
below b a c = if b then equals_zero W64 (whole a) else two_parts heads.Ltu W64 (whole a) (constant W64 c)

below_64 : (b : Bool) (a c : ℕ) → low_bits W64 (in_64 (below b a c)) ≡ in_64 (below b a c)
unfolding zero_test
below_64 true a c = refl
below_64 false a c = refl

below_32 : (b : Bool) (a c : ℕ) → low_bits W32 (in_64 (below b a c)) ≡ in_32 (below b a c)
unfolding zero_test cut_32
below_32 true a c = refl
below_32 false a c = refl

reversed_64 : (b : Bool) (a c : ℕ) → low_bits W64 (reversed (in_64 (below b a c))) ≡ in_64 (opposite (below b a c))
unfolding zero_test made_8 made_64
reversed_64 true a c = refl
reversed_64 false a c = refl

reversed_32 : (b : Bool) (a c : ℕ) → low_bits W32 (reversed (in_64 (below b a c))) ≡ in_32 (opposite (below b a c))
unfolding zero_test cut_32 made_8 made_32 made_64
reversed_32 true a c = refl
reversed_32 false a c = refl

-- whether the constant is 1
abbrev is_one : ℕ → Bool
is_one c = low W64 (low W64 c) == 1

pub sltiu_64 : (a c : ℕ) → Compares (operators.Test relation.Ltu) code.Ltu W64 (whole a) (constant W64 c)
unfolding less_test
sltiu_64 a c = below_64 (is_one c) a c

pub sltiu_32 : (a c : ℕ) → Compares (operators.Test relation.Ltu) code.Ltu W32 (whole a) (constant W64 c)
unfolding less_test
sltiu_32 a c = below_32 (is_one c) a c

pub sgeiu_64 : (a c : ℕ) → Reverses (operators.Test relation.Ltu) code.Geu W64 (whole a) (constant W64 c)
unfolding less_test
sgeiu_64 a c = reversed_64 (is_one c) a c

pub sgeiu_32 : (a c : ℕ) → Reverses (operators.Test relation.Ltu) code.Geu W32 (whole a) (constant W64 c)
unfolding less_test
sgeiu_32 a c = reversed_32 (is_one c) a c
