-- Registers by what a look-up gives.
use Rattle.std.proofs.Common.{◌≡◌, ◌≢◌, ℕ, zero, suc, ◌==◌, ◌<◌, ◌^◌, if◌then◌else◌, false, Some, refl, sym, ap, ◌∙◌, arith}
use Rattle.std.proofs.lemmas.Bool.Decides.{nat_tests}
use Rattle.std.specs.Cmp.{nat_cmp_total}
use Rattle.std.specs.FinMap.{get, get-insert}
use Rattle.std.specs.Prelude.{option_and_then}
use Rattle.bits64.specs.Words.{low}
use Rattle.bits64.specs.declared.Width.{Width}
use Rattle.bits64.specs.declared.Width.TheVariants.{W64}
use Rattle.rtl_step.specs.Regs.{Regs, known_in, known_of, reg_value, with_reg}
use Rattle.rtl_step.specs.declared.regs.Known.{Known}
use Rattle.law_window_replaced.proofs.law_window_lines.Entry.{known_wide}
use Rattle.law_window_replaced.proofs.law_window_lines.Small.{is_here, is_other}

pub differs : (r n : ℕ) → (r == n) ≡ false → r ≢ n
differs r n is same = grind (arith, nat_tests, is, same)

pub differ : (r n : ℕ) → r ≢ n → (r == n) ≡ false
differ r n other = grind (arith, nat_tests, other)

pub set_is : (regs : Regs) (r : ℕ) (k : Known) → r ≢ 0 → get (with_reg regs r k) r ≡ Some k
set_is regs zero k some = absurd (some refl)
set_is regs (suc r) k some = get-insert nat_cmp_total regs (suc r) k (suc r) ∙
    ap (λ b. if b then Some k else get regs (suc r)) (is_here (suc r))

pub set_other : (regs : Regs) (r : ℕ) (k : Known) (q : ℕ) → q ≢ r → get (with_reg regs r k) q ≡ get regs q
set_other regs zero k q other = refl
set_other regs (suc r) k q other = get-insert nat_cmp_total regs (suc r) k q ∙
    ap (λ b. if b then Some k else get regs q) (is_other q (suc r) (λ same. other (sym same)))

-- what two maps have alike they value alike
pub value_alike : (regs other : Regs) (r : ℕ) (w : Width) → get other r ≡ get regs r → reg_value other r w ≡ reg_value regs r w
value_alike regs other zero w same = refl
value_alike regs other (suc r) w same = ap (option_and_then (known_in w)) same

-- the low bits of a register that is known to hold a number
pub holds_low : (regs : Regs) (r x : ℕ) (w : Width) → r ≢ 0 → get regs r ≡ Some (known_of W64 x) → reg_value regs r w ≡ Some (low w x)
holds_low regs zero x w some is = absurd (some refl)
holds_low regs (suc r) x w some is = ap (option_and_then (known_in w)) is ∙ known_wide w x

pub low_whole : (x : ℕ) → x < 2 ^ 64 → low W64 x ≡ x
low_whole x small = omega (arith, small)

pub holds : (regs : Regs) (r x : ℕ) → r ≢ 0 → x < 2 ^ 64 → get regs r ≡ Some (known_of W64 x) → reg_value regs r W64 ≡ Some x
holds regs r x some small is = holds_low regs r x W64 some is ∙ ap Some (low_whole x small)
