-- Copies of registers and constants.
use Rattle.std.proofs.Common.{◌≡◌, ℕ, refl, ap, ◌∙◌, arith, [], ◌∷◌}
use Rattle.bits64.specs.declared.Width.TheVariants.{W8, W16, W32, W64}
use Rattle.term_tree.specs.Tree.{Sum, no_atoms}
use Rattle.term_mean.specs.Sums.{constant, summed}
use Rattle.term_mean.specs.Masks.{cut_8, cut_16, cut_32}
use Rattle.term_mean.specs.Compared.{low_bits}
use Rattle.law_plain_terms.specs.Rows.{Copies, Loads}
use Rattle.law_plain_terms.proofs.Back.{bare_sum, low_constant_16, low_constant_32, low_constant_64_8}

-- ---- mv

pub copy_64 : Copies W64
copy_64 a = refl

pub copy_32 : Copies W32
unfolding cut_32
copy_32 a = refl

pub copy_16 : Copies W16
unfolding cut_16
copy_16 a = refl

pub copy_8 : Copies W8
unfolding cut_8
copy_8 a = refl

-- ---- li

-- a constant and 0
pub sum_of_constant : (c : ℕ) → summed W64 0 ((1, constant W64 c) ∷ (1, constant W64 0) ∷ []) ≡ constant W64 c
sum_of_constant c = bare_sum W64 _ ∙ ap (λ n. Sum W64 n no_atoms) (omega arith)

pub load_64 : Loads W64
load_64 c = ap (low_bits W64) (sum_of_constant c)

pub load_32 : Loads W32
load_32 c = ap (low_bits W32) (sum_of_constant c) ∙ low_constant_32 c

pub load_16 : Loads W16
load_16 c = ap (low_bits W16) (sum_of_constant c) ∙ low_constant_16 c

pub load_8 : Loads W8
load_8 c = ap (low_bits W8) (sum_of_constant c) ∙ low_constant_64_8 c
