-- Addresses, loads, and what is stored.
use Rattle.std.proofs.Common.{◌≡◌, ℕ, refl, ap, arith, [], ◌∷◌}
use Rattle.bits64.specs.declared.Width.TheVariants.{W8, W16, W32, W64}
use Rattle.bits64.specs.Words.{low, sum_of, product_of}
use Rattle.rtx_tree.specs.declared.code.Code.TheVariants as code
use Rattle.rv_text.specs.declared.action.Extension.TheVariants.{Sign, Zero}
use Rattle.term_tree.specs.Tree.{Tree}
use Rattle.term_mean.specs.Sums.{sum}
use Rattle.term_mean.specs.Masks.{cut_8, cut_16, cut_32}
use Rattle.term_mean.specs.Compared.{low_bits}
use Rattle.law_plain_terms.specs.Rows.{whole, line_address, insn_address, loaded_at, loads, converted}

-- ---- addresses

same_number : (c : ℕ) → sum_of W64 (low W64 c) (product_of W64 1 0) ≡ sum_of W64 0 (product_of W64 1 (low W64 c))
same_number c = omega arith

pub same_address : (a c : ℕ) → line_address a c ≡ insn_address a c
same_address a c = ap (λ n. sum W64 n ((1, whole a) ∷ [])) (same_number c)

-- a register alone is the address without an offset
pub bare_address : (a : ℕ) → line_address a 0 ≡ whole a
bare_address a = refl

-- ---- loads of fewer bits into as many, and extended

pub load_64 : (at : Tree) → low_bits W64 (loads Sign W64 at) ≡ loaded_at W64 at
load_64 at = refl

pub load_32 : (at : Tree) → low_bits W32 (loads Sign W32 at) ≡ loaded_at W32 at
unfolding cut_32
load_32 at = refl

pub load_16 : (at : Tree) → low_bits W16 (loads Zero W16 at) ≡ loaded_at W16 at
unfolding cut_16
load_16 at = refl

pub load_8 : (at : Tree) → low_bits W8 (loads Zero W8 at) ≡ loaded_at W8 at
unfolding cut_8
load_8 at = refl

-- ---- loads that extend

pub sign_8_64 : (at : Tree) → low_bits W64 (loads Sign W8 at) ≡ converted code.SignExtend W64 (loaded_at W8 at)
sign_8_64 at = refl

pub sign_8_32 : (at : Tree) → low_bits W32 (loads Sign W8 at) ≡ converted code.SignExtend W32 (loaded_at W8 at)
unfolding cut_32
sign_8_32 at = refl

pub sign_16_64 : (at : Tree) → low_bits W64 (loads Sign W16 at) ≡ converted code.SignExtend W64 (loaded_at W16 at)
sign_16_64 at = refl

pub sign_16_32 : (at : Tree) → low_bits W32 (loads Sign W16 at) ≡ converted code.SignExtend W32 (loaded_at W16 at)
unfolding cut_32
sign_16_32 at = refl

pub sign_32_64 : (at : Tree) → low_bits W64 (loads Sign W32 at) ≡ converted code.SignExtend W64 (loaded_at W32 at)
sign_32_64 at = refl

pub zero_8_64 : (at : Tree) → low_bits W64 (loads Zero W8 at) ≡ converted code.ZeroExtend W64 (loaded_at W8 at)
zero_8_64 at = refl

pub zero_8_32 : (at : Tree) → low_bits W32 (loads Zero W8 at) ≡ converted code.ZeroExtend W32 (loaded_at W8 at)
unfolding cut_32
zero_8_32 at = refl

pub zero_16_64 : (at : Tree) → low_bits W64 (loads Zero W16 at) ≡ converted code.ZeroExtend W64 (loaded_at W16 at)
zero_16_64 at = refl

pub zero_16_32 : (at : Tree) → low_bits W32 (loads Zero W16 at) ≡ converted code.ZeroExtend W32 (loaded_at W16 at)
unfolding cut_32
zero_16_32 at = refl

pub zero_32_64 : (at : Tree) → low_bits W64 (loads Zero W32 at) ≡ converted code.ZeroExtend W64 (loaded_at W32 at)
zero_32_64 at = refl
