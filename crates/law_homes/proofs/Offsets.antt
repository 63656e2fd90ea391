-- Sums with sp, in each width.
use Rattle.std.proofs.Common.{◌≡◌, ℕ, zero, suc, ◌+◌, ◌*◌, ◌%◌, ◌^◌, Bool, true, false, List, [], ◌∷◌, Option, Some, None, refl, sym, ap, ◌∙◌, arith}
use Rattle.std.proofs.lemmas.Bool.Decides.{Decides-int_eq}
use Rattle.std.proofs.lemmas.Int.{ints, of_z-to_z, int_rem_euclid_is, int_wrap-add_right}
use Rattle.std.specs.FinMap.{get}
use Rattle.std.specs.Int.{cast_signed, cast_unsigned, int_wrap, w64}
use Rattle.std.specs.Int.RustNames.{unsigned_abs}
use Rattle.std.specs.Ordering.{int_eq}
use Rattle.std.specs.Prelude.{ℤ, pos, ◌+ℤ◌, option_and_then, nat_le, if◌then◌else◌}
use Rattle.bits64.specs.Words.{bits_of, low, sum_of}
use Rattle.bits64.specs.declared.Width.{Width}
use Rattle.bits64.specs.declared.Width.TheVariants.{W8, W16, W32, W64}
use Rattle.rtx_tree.specs.Tree.{reg_of, const_of, node_of}
use Rattle.rtx_tree.specs.declared.code.Code.TheVariants.{Plus}
use Rattle.rtx_tree.specs.declared.code.Mode.{Mode}
use Rattle.rtx_tree.specs.declared.machine.SymbolAt.{SymbolAt}
use Rattle.rtx_tree.specs.declared.memories.MemByte.{MemByte}
use Rattle.rtl_step.specs.Regs.{Regs, known_in, reg_value}
use Rattle.rtl_step.specs.Value.{value_of, of_two}
use Rattle.rtl_step.specs.declared.regs.Known.{Known}
use Rattle.reload_homes.specs.FrameRefs.{from_sp}
use Rattle.law_homes.proofs.Trees.{reg_is, const_is, sum_is}

-- ---- numbers

-- a number that wraps, by a natural one that it differs from by a multiple of 2^64
wrap_of : (n : ℤ) (times m : ℕ) → n +ℤ pos (times * 2 ^ 64) ≡ pos m → cast_unsigned w64 (int_wrap w64 n) ≡ m % 2 ^ 64
unfolding int_wrap
wrap_of n times m is =
    ap (λ r. cast_unsigned w64 (cast_signed w64 (unsigned_abs r))) (int_rem_euclid_is n (pos (2 ^ 64)) (2 ^ 64) times m (omega arith) refl is)
    ∙ of_z-to_z w64 (m % 2 ^ 64) (omega arith)

pub wrap_natural : (a : ℕ) → cast_unsigned w64 (int_wrap w64 (pos a)) ≡ a % 2 ^ 64
wrap_natural a = wrap_of (pos a) 0 a (omega (arith, ints))

-- a sum with a number that has wrapped
pub wrap_sum : (a b : ℕ) → cast_unsigned w64 (int_wrap w64 (pos a +ℤ int_wrap w64 (pos b))) ≡ (a + cast_unsigned w64 (int_wrap w64 (pos b))) % 2 ^ 64
wrap_sum a b =
    ap (cast_unsigned w64) (int_wrap-add_right w64 (pos a) (pos b))
    ∙ wrap_of (pos a +ℤ pos b) 0 (a + b) (omega (arith, ints))
    ∙ (let cut : (a + b) % 2 ^ 64 ≡ (a + b % 2 ^ 64) % 2 ^ 64 = omega arith in cut)
    ∙ ap (λ n. (a + n) % 2 ^ 64) (sym (wrap_natural b))

-- the low bits of a sum with one that is cut to 64 bits
pub low_cut : (w : Width) (below a : ℕ) → low w (below + a % 2 ^ 64) ≡ low w (below + a)
low_cut W8 below a = omega arith
low_cut W16 below a = omega arith
low_cut W32 below a = omega arith
low_cut W64 below a = omega arith

-- those of one that is cut
pub low_all : (w : Width) (a : ℕ) → low w (a % 2 ^ 64) ≡ low w a
low_all W8 a = omega arith
low_all W16 a = omega arith
low_all W32 a = omega arith
low_all W64 a = omega arith

pub sum_low : (w : Width) (a b : ℕ) → sum_of w (low w a) (low w b) ≡ low w (a + b)
sum_low W8 a b = omega arith
sum_low W16 a b = omega arith
sum_low W32 a b = omega arith
sum_low W64 a b = omega arith

low_low : (w : Width) (a : ℕ) → low w (low W64 a) ≡ low w a
low_low W8 a = omega arith
low_low W16 a = omega arith
low_low W32 a = omega arith
low_low W64 a = omega arith

fits_all : (w v : Width) → nat_le (bits_of W64) (bits_of v) ≡ true → nat_le (bits_of w) (bits_of v) ≡ true
fits_all w W64 all = by w
  where
    by : (w : Width) → nat_le (bits_of w) 64 ≡ true
    by W8 = refl
    by W16 = refl
    by W32 = refl
    by W64 = refl
fits_all w W8 all = absurd (let no : ⊥ = cc in no)
fits_all w W16 all = absurd (let no : ⊥ = cc in no)
fits_all w W32 all = absurd (let no : ⊥ = cc in no)

-- ---- a register that is known in 64 bits is known in each width

known_whole : (w : Width) (k : Known) (b : Bool) (a : ℕ) → nat_le (bits_of W64) (bits_of k.width) ≡ b →
    (if b then Some (low W64 k.value) else None) ≡ Some a → known_in w k ≡ Some (low w a)
known_whole w k true a wide is =
    let same : low W64 k.value ≡ a = cc in
    ap (λ b. if b then Some (low w k.value) else None) (fits_all w k.width wide) ∙ ap Some (sym (low_low w k.value) ∙ ap (low w) same)
known_whole w k false a wide is = absurd (let no : ⊥ = cc in no)

low_zero : (w : Width) → low w 0 ≡ 0
low_zero W8 = refl
low_zero W16 = refl
low_zero W32 = refl
low_zero W64 = refl

pub known_each : (regs : Regs) (reg a : ℕ) (w : Width) → reg_value regs reg W64 ≡ Some a → reg_value regs reg w ≡ Some (low w a)
known_each regs zero a w is = let same : 0 ≡ a = cc in ap Some (sym (low_zero w) ∙ ap (low w) same)
known_each regs (suc reg) a w is = by (get regs (suc reg)) is
  where
    by : (o : Option Known) → option_and_then (known_in W64) o ≡ Some a → option_and_then (known_in w) o ≡ Some (low w a)
    by None none = absurd (let no : ⊥ = cc in no)
    by (Some k) has = known_whole w k (nat_le (bits_of W64) (bits_of k.width)) a refl has

-- ---- sp plus a number

module _ (symbols : List SymbolAt) (regs : Regs) (memory : List MemByte) (base : ℕ) (pointer : reg_value regs 2 W64 ≡ Some base) where
  sp_alone : (mode : Mode) (w : Width) → value_of symbols regs memory (reg_of mode 2) w ≡ Some (low w base)
  sp_alone mode w = reg_is symbols regs memory mode 2 w ∙ known_each regs 2 base w pointer

  sp_sum : (mode : Mode) (n : ℤ) (b : Bool) (w : Width) → int_eq n (pos 0) ≡ b →
      value_of symbols regs memory (if b then reg_of mode 2 else node_of Plus mode (reg_of mode 2 ∷ const_of n ∷ [])) w ≡ Some (low w (base + cast_unsigned w64 n))
  sp_sum mode n true w is =
      let nothing : n ≡ pos 0 = (Decides-int_eq n (pos 0)).0 is in
      let none : cast_unsigned w64 n ≡ 0 = ap (cast_unsigned w64) nothing in
      let same : base ≡ base + cast_unsigned w64 n = omega (arith, none) in
      sp_alone mode w ∙ ap (λ a. Some (low w a)) same
  sp_sum mode n false w is =
      sum_is symbols regs memory mode (reg_of mode 2) (const_of n) w
      ∙ ap (λ o. of_two (λ a b. Some (sum_of w a b)) o (value_of symbols regs memory (const_of n) w)) (sp_alone mode w)
      ∙ ap (λ o. of_two (λ a b. Some (sum_of w a b)) (Some (low w base)) o) (const_is symbols regs memory n w)
      ∙ ap Some (sum_low w base (cast_unsigned w64 n))

  pub from_sp_is : (mode : Mode) (n : ℤ) (w : Width) → value_of symbols regs memory (from_sp mode n) w ≡ Some (low w (base + cast_unsigned w64 (int_wrap w64 n)))
  from_sp_is mode n w = sp_sum mode (int_wrap w64 n) (int_eq (int_wrap w64 n) (pos 0)) w refl
