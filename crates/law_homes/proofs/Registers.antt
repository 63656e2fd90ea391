-- What is known of registers after one of them is set or unset.
use Rattle.std.proofs.Common.{◌≡◌, ℕ, zero, suc, ◌<◌, cond, Some, None, refl, ap, ◌∙◌, arith}
use Rattle.std.specs.Cmp.{nat_cmp_total}
use Rattle.std.specs.FinMap.{get, get-insert, get-remove}
use Rattle.std.specs.Prelude.{option_and_then}
use Rattle.bits64.specs.declared.Width.{Width}
use Rattle.rtl_step.specs.Regs.{Regs, known_in, reg_value, with_reg, without_reg}
use Rattle.rtl_step.specs.declared.regs.Known.{Known}
use Rattle.law_window_lines.proofs.Small.{is_here, is_other}

pub with_here : (regs : Regs) (t : ℕ) (k : Known) (w : Width) → 0 < t → reg_value (with_reg regs t k) t w ≡ known_in w k
with_here regs zero k w some = absurd (omega (arith, some))
with_here regs (suc t) k w some =
    ap (option_and_then (known_in w)) (get-insert nat_cmp_total regs (suc t) k (suc t) ∙ ap (λ b. cond b (Some k) (get regs (suc t))) (is_here (suc t)))

pub with_other : (regs : Regs) (t reg : ℕ) (k : Known) (w : Width) → (t ≡ reg → ⊥) → reg_value (with_reg regs t k) reg w ≡ reg_value regs reg w
with_other regs zero reg k w other = refl
with_other regs (suc t) zero k w other = refl
with_other regs (suc t) (suc reg) k w other =
    ap (option_and_then (known_in w)) (get-insert nat_cmp_total regs (suc t) k (suc reg) ∙ ap (λ b. cond b (Some k) (get regs (suc reg))) (is_other (suc reg) (suc t) other))

pub without_here : (regs : Regs) (t : ℕ) (w : Width) → 0 < t → reg_value (without_reg regs t) t w ≡ None
without_here regs zero w some = absurd (omega (arith, some))
without_here regs (suc t) w some =
    ap (option_and_then (known_in w)) (get-remove nat_cmp_total regs (suc t) (suc t) ∙ ap (λ b. cond b None (get regs (suc t))) (is_here (suc t)))

pub without_other : (regs : Regs) (t reg : ℕ) (w : Width) → (t ≡ reg → ⊥) → reg_value (without_reg regs t) reg w ≡ reg_value regs reg w
without_other regs t zero w other = refl
without_other regs t (suc reg) w other =
    ap (option_and_then (known_in w)) (get-remove nat_cmp_total regs t (suc reg) ∙ ap (λ b. cond b None (get regs (suc reg))) (is_other (suc reg) t other))
