-- Comparisons with 0, and for equality.
use Rattle.std.proofs.Common.{◌≡◌, ℕ, refl}
use Rattle.bits64.specs.declared.Width.TheVariants.{W32, W64}
use Rattle.bits64.specs.declared.operator.Operator.TheVariants as operators
use Rattle.bits64.specs.declared.operator.Relation.TheVariants as relation
use Rattle.rtx_tree.specs.declared.code.Code.TheVariants as code
use Rattle.term_mean.specs.Sums.{constant}
use Rattle.term_mean.specs.Masks.{cut_32, made_8, made_32, made_64}
use Rattle.term_mean.specs.Less.{less_test}
use Rattle.term_mean.specs.Zero.{zero_test}
use Rattle.term_mean.specs.Compared.{low_bits}
use Rattle.law_plain_terms.specs.Rows.{whole, line, truth, Compares, Reverses}

-- ---- a register greater than register zero, and not greater

pub sgt_zero_64 : (a : ℕ) → Compares (operators.Test relation.Lt) code.Lt W64 (constant W64 0) (whole a)
unfolding less_test
sgt_zero_64 a = refl

pub sgt_zero_32 : (a : ℕ) → Compares (operators.Test relation.Lt) code.Lt W32 (constant W64 0) (whole a)
unfolding less_test cut_32
sgt_zero_32 a = refl

pub sgtu_zero_64 : (a : ℕ) → Compares (operators.Test relation.Ltu) code.Ltu W64 (constant W64 0) (whole a)
unfolding less_test zero_test made_8 made_64
sgtu_zero_64 a = refl

pub sgtu_zero_32 : (a : ℕ) → Compares (operators.Test relation.Ltu) code.Ltu W32 (constant W64 0) (whole a)
unfolding less_test zero_test cut_32 made_8 made_32 made_64
sgtu_zero_32 a = refl

pub sle_zero_64 : (a : ℕ) → Reverses (operators.Test relation.Lt) code.Ge W64 (constant W64 0) (whole a)
unfolding less_test made_8 made_64
sle_zero_64 a = refl

pub sle_zero_32 : (a : ℕ) → Reverses (operators.Test relation.Lt) code.Ge W32 (constant W64 0) (whole a)
unfolding less_test cut_32 made_8 made_32 made_64
sle_zero_32 a = refl

pub sleu_zero_64 : (a : ℕ) → Reverses (operators.Test relation.Ltu) code.Geu W64 (constant W64 0) (whole a)
unfolding less_test zero_test made_8 made_64
sleu_zero_64 a = refl

pub sleu_zero_32 : (a : ℕ) → Reverses (operators.Test relation.Ltu) code.Geu W32 (constant W64 0) (whole a)
unfolding less_test zero_test cut_32 made_8 made_32 made_64
sleu_zero_32 a = refl

-- ---- a register that is 0, and one that is not: less than 1, and above 0

pub seqz_64 : (a : ℕ) → low_bits W64 (line (operators.Test relation.Ltu) (whole a) (constant W64 1)) ≡ truth code.Eq W64 (whole a) (constant W64 0)
unfolding less_test zero_test
seqz_64 a = refl

pub seqz_32 : (a : ℕ) → low_bits W32 (line (operators.Test relation.Ltu) (whole a) (constant W64 1)) ≡ truth code.Eq W32 (whole a) (constant W64 0)
unfolding less_test zero_test cut_32
seqz_32 a = refl

pub snez_64 : (a : ℕ) → low_bits W64 (line (operators.Test relation.Ltu) (constant W64 0) (whole a)) ≡ truth code.Ne W64 (whole a) (constant W64 0)
unfolding less_test zero_test made_8 made_64
snez_64 a = refl

pub snez_32 : (a : ℕ) → low_bits W32 (line (operators.Test relation.Ltu) (constant W64 0) (whole a)) ≡ truth code.Ne W32 (whole a) (constant W64 0)
unfolding less_test zero_test cut_32 made_8 made_32 made_64
snez_32 a = refl
