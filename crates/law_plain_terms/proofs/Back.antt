-- What is extended by the sign from 32 to 64 bits, and cut to 32 again, is as before; and low bits of
-- a term as wide are the term.
use Rattle.std.proofs.Common.{◌≡◌, ℕ, zero, suc, ◌^◌, ◌<◌, if◌then◌else◌, refl, sym, subst, ◌∙◌, ap, arith, [], ◌∷◌}
use Rattle.bits64.specs.declared.Width.{Width}
use Rattle.bits64.specs.declared.Width.TheVariants.{W8, W16, W32, W64}
use Rattle.bits64.specs.Words.{low, sign_extended}
use Rattle.term_tree.specs.declared.head.Head.TheVariants as heads
use Rattle.term_tree.specs.Tree.{Tree, Atoms, Sum, no_atoms, atom, width_of}
use Rattle.term_tree.specs.Form.{same_width}
use Rattle.term_mean.specs.Sums.{constant, sum, with_atom}
use Rattle.term_mean.specs.Masks.{cut_8, cut_16, cut_32, cut_to}
use Rattle.term_mean.specs.Compared.{low_bits}
use Rattle.term_mean.proofs.CutLaws.{low-low, sign_extended-low}
use Rattle.term_mean.proofs.NormalWidths.{width-built}
use Rattle.sym_state.specs.Makers.{one}
use Rattle.law_plain_terms.specs.Rows.{part}

-- ---- a term as wide

same_widths : (w : Width) (t : Tree) → (if same_width w w then t else cut_to w t) ≡ t
same_widths W8 t = refl
same_widths W16 t = refl
same_widths W32 t = refl
same_widths W64 t = refl

pub low_same : (w : Width) (t : Tree) → width_of t ≡ w → low_bits w t ≡ t
low_same w t e = subst (λ v. (if same_width v w then t else cut_to w t) ≡ t) (sym e) (same_widths w t)

-- ---- constants

pub bare_sum : (w : Width) (c : ℕ) → sum w c [] ≡ Sum w c no_atoms
bare_sum w zero = refl
bare_sum w (suc c) = refl

pub low_constant_32 : (c : ℕ) → low_bits W32 (constant W64 c) ≡ constant W32 c
unfolding cut_32
low_constant_32 c = bare_sum W32 (low W32 (low W64 c)) ∙ ap (λ n. Sum W32 n no_atoms) (low-low W32 W64 c (omega arith))

pub low_constant_8 : (c : ℕ) → low_bits W8 (constant W32 c) ≡ constant W8 c
unfolding cut_8
low_constant_8 c = bare_sum W8 (low W8 (low W32 c)) ∙ ap (λ n. Sum W8 n no_atoms) (low-low W8 W32 c (omega arith))

pub low_constant_16 : (c : ℕ) → low_bits W16 (constant W64 c) ≡ constant W16 c
unfolding cut_16
low_constant_16 c = bare_sum W16 (low W16 (low W64 c)) ∙ ap (λ n. Sum W16 n no_atoms) (low-low W16 W64 c (omega arith))

pub low_constant_64_8 : (c : ℕ) → low_bits W8 (constant W64 c) ≡ constant W8 c
unfolding cut_8
low_constant_64_8 c = bare_sum W8 (low W8 (low W64 c)) ∙ ap (λ n. Sum W8 n no_atoms) (low-low W8 W64 c (omega arith))

-- ---- there and back

abbrev pub extended_64 : Tree → Tree
extended_64 t = one [] heads.Sext W64 t

abbrev pub Back : Tree → Type 0
Back t = low_bits W32 (extended_64 t) ≡ t

below : (c : ℕ) → c < 2 ^ 32 → low W32 c ≡ c
below c h = omega (arith, h)

pub back_constant : (c : ℕ) → c < 2 ^ 32 → Back (Sum W32 c no_atoms)
back_constant c h = low_constant_32 (sign_extended W32 c) ∙ ap (λ n. Sum W32 n no_atoms) (sign_extended-low W32 W32 c (omega arith) ∙ below c h)

pub back_sum : (c k : ℕ) (t : Tree) (xs : Atoms) → Back (Sum W32 c (atom k t xs))
unfolding cut_32
back_sum c k t xs = refl

-- a constant and a multiple of a register's part
pub back_atom : (c k a : ℕ) → c < 2 ^ 32 → Back (sum W32 c (with_atom k (part W32 a) []))
unfolding cut_32
back_atom zero zero a h = refl
back_atom (suc c) zero a h = back_constant (suc c) h
back_atom zero (suc zero) a h = refl
back_atom zero (suc (suc k)) a h = refl
back_atom (suc c) (suc k) a h = refl

-- ---- truths, extended to 64 bits

abbrev pub in_64 : Tree → Tree
in_64 t = one [] heads.Zext W64 t

abbrev pub in_32 : Tree → Tree
in_32 t = one [] heads.Zext W32 t

pub whole_truth : (t : Tree) → low_bits W64 (in_64 t) ≡ in_64 t
whole_truth t = low_same W64 (in_64 t) (width-built [] heads.Zext W64 0 [] (t ∷ []))
