-- Addresses and loads of the plain rows are within the limit on terms.
use Rattle.std.proofs.Common.{ℕ, zero, suc, refl, [], ◌∷◌}
use Rattle.bits64.specs.declared.Width.{Width}
use Rattle.bits64.specs.declared.Width.TheVariants.{W8, W16, W32, W64}
use Rattle.bits64.specs.Words.{low, sum_of, product_of}
use Rattle.rv_text.specs.declared.action.Extension.{Extension}
use Rattle.rv_text.specs.declared.action.Extension.TheVariants.{Sign, Zero}
use Rattle.term_tree.specs.Tree.{Tree}
use Rattle.term_mean.specs.Sums.{sum}
use Rattle.term_tree.specs.declared.head.Head.TheVariants as heads
use Rattle.sym_state.specs.Makers.{one}
use Rattle.law_plain_terms.specs.Rows.{whole, line_address, loaded_at, loads, IsSmall}

-- a register and an offset
abbrev at : ℕ → ℕ → Tree
at n a = sum W64 n ((1, whole a) ∷ [])

small_at : (n a : ℕ) → IsSmall (at n a)
small_at zero a = refl
small_at (suc n) a = refl

pub small_address : (a c : ℕ) → IsSmall (line_address a c)
small_address a c = small_at (sum_of W64 (low W64 c) (product_of W64 1 0)) a

small_load : (w : Width) (n a : ℕ) → IsSmall (loaded_at w (at n a))
small_load w zero a = refl
small_load w (suc n) a = refl

small_loaded : (e : Extension) (w : Width) (n a : ℕ) → IsSmall (loads e w (at n a))
small_loaded Sign W8 zero a = refl
small_loaded Sign W8 (suc n) a = refl
small_loaded Sign W16 zero a = refl
small_loaded Sign W16 (suc n) a = refl
small_loaded Sign W32 zero a = refl
small_loaded Sign W32 (suc n) a = refl
small_loaded Sign W64 zero a = refl
small_loaded Sign W64 (suc n) a = refl
small_loaded Zero W8 zero a = refl
small_loaded Zero W8 (suc n) a = refl
small_loaded Zero W16 zero a = refl
small_loaded Zero W16 (suc n) a = refl
small_loaded Zero W32 zero a = refl
small_loaded Zero W32 (suc n) a = refl
small_loaded Zero W64 zero a = refl
small_loaded Zero W64 (suc n) a = refl

-- what a line loads, and what the instruction reads there
pub line_loads : (e : Extension) (w : Width) (a c : ℕ) → IsSmall (loads e w (line_address a c))
line_loads e w a c = small_loaded e w (sum_of W64 (low W64 c) (product_of W64 1 0)) a

pub insn_reads : (w : Width) (a c : ℕ) → IsSmall (loaded_at w (line_address a c))
insn_reads w a c = small_load w (sum_of W64 (low W64 c) (product_of W64 1 0)) a

-- what an instruction extends of it to 32 bits
small_signed : (w : Width) (n a : ℕ) → IsSmall (one [] heads.Sext W32 (loaded_at w (at n a)))
small_signed w zero a = refl
small_signed w (suc n) a = refl

small_unsigned : (w : Width) (n a : ℕ) → IsSmall (one [] heads.Zext W32 (loaded_at w (at n a)))
small_unsigned w zero a = refl
small_unsigned w (suc n) a = refl

pub insn_extends : (w : Width) (a c : ℕ) → IsSmall (one [] heads.Sext W32 (loaded_at w (line_address a c))) × IsSmall (one [] heads.Zext W32 (loaded_at w (line_address a c)))
insn_extends w a c = let n = sum_of W64 (low W64 c) (product_of W64 1 0) in (small_signed w n a, small_unsigned w n a)
