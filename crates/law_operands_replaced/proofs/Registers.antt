-- Registers by what a look-up gives.
use Rattle.std.proofs.Common.{◌≡◌, ◌≢◌, ℕ, zero, suc, eqb, if◌then◌else◌, true, false, Some, None, refl, ap, ◌∙◌, arith}
use Rattle.std.proofs.lemmas.Bool.Decides.{nat_tests}
use Rattle.std.specs.Cmp.{nat_cmp_total}
use Rattle.std.specs.FinMap.{get, get-insert, get-remove}
use Rattle.std.specs.Ordering.{nat_cmp, eq_by_cmp}
use Rattle.std.specs.Prelude.{option_and_then, nat_le}
use Rattle.bits64.specs.Words.{low, bits_of}
use Rattle.bits64.specs.declared.Width.{Width}
use Rattle.bits64.specs.declared.Width.TheVariants.{W8, W16, W32, W64}
use Rattle.rtl_step.specs.Regs.{Regs, known_in, known_of, reg_value, with_reg, without_reg}
use Rattle.rtl_step.specs.declared.regs.Known.{Known}
use Rattle.law_operands_replaced.proofs.Cells.{eqb_cmp}

same_eqb : (r : ℕ) → eqb r r ≡ true
same_eqb r = grind (arith, nat_tests)

pub other_eqb : (q r : ℕ) → q ≢ r → eqb q r ≡ false
other_eqb q r differ = grind (arith, nat_tests, differ)

pub set_is : (regs : Regs) (r : ℕ) (k : Known) → r ≢ 0 → get (with_reg regs r k) r ≡ Some k
set_is regs zero k some = absurd (some refl)
set_is regs (suc r) k some = get-insert nat_cmp_total regs (suc r) k (suc r) ∙
    ap (λ b. if b then Some k else get regs (suc r)) (eqb_cmp (suc r) (suc r) ∙ same_eqb (suc r))

pub set_other : (regs : Regs) (r : ℕ) (k : Known) (q : ℕ) → q ≢ r → get (with_reg regs r k) q ≡ get regs q
set_other regs zero k q differ = refl
set_other regs (suc r) k q differ = get-insert nat_cmp_total regs (suc r) k q ∙
    ap (λ b. if b then Some k else get regs q) (eqb_cmp q (suc r) ∙ other_eqb q (suc r) differ)

pub unset_other : (regs : Regs) (r q : ℕ) → q ≢ r → get (without_reg regs r) q ≡ get regs q
unset_other regs r q differ = get-remove nat_cmp_total regs r q ∙
    ap (λ b. if b then None else get regs q) (eqb_cmp q r ∙ other_eqb q r differ)

-- what two maps have alike they value alike
pub value_alike : (regs other : Regs) (r : ℕ) (w : Width) → get other r ≡ get regs r → reg_value other r w ≡ reg_value regs r w
value_alike regs other zero w same = refl
value_alike regs other (suc r) w same = ap (option_and_then (known_in w)) same

whole : (w : Width) → nat_le (bits_of w) (bits_of w) ≡ true
whole W8 = refl
whole W16 = refl
whole W32 = refl
whole W64 = refl

pub low_low : (w : Width) (v : ℕ) → low w (low w v) ≡ low w v
low_low W8 v = omega arith
low_low W16 v = omega arith
low_low W32 v = omega arith
low_low W64 v = omega arith

-- the low bits of a register that is known in a width
pub holds_low : (regs : Regs) (r v : ℕ) (w : Width) → r ≢ 0 → get regs r ≡ Some (known_of w v) → reg_value regs r w ≡ Some (low w v)
holds_low regs zero v w some is = absurd (some refl)
holds_low regs (suc r) v w some is = ap (option_and_then (known_in w)) is ∙
    ap (λ b. if b then Some (low w (low w v)) else None) (whole w) ∙ ap Some (low_low w v)
