-- What is known of registers behind a reply.
use Rattle.std.proofs.Common.{◌≡◌, ℕ, zero, suc, not, cond, if◌then◌else◌, Bool, true, false, Option, Some, None, refl, sym, ap, ◌∙◌}
use Rattle.std.specs.Cmp.{nat_cmp_total}
use Rattle.std.specs.FinMap.{get, get-insert}
use Rattle.std.specs.Ordering.{nat_cmp, eq_by_cmp}
use Rattle.std.specs.Prelude.{option_and_then}
use Rattle.bits64.specs.declared.Width.{Width}
use Rattle.rtx_tree.specs.Registers.{is_call_used}
use Rattle.rtl_step.specs.Call.{regs_replied}
use Rattle.rtl_step.specs.Regs.{Regs, known_in, known_of, preserved}
use Rattle.rtl_step.specs.declared.regs.Known.{Known}
use Rattle.rtl_step.proofs.Registers.{get_kept}
use Rattle.law_window_kept.specs.Same.{KnownToo}

got : (regs : Regs) (w : Width) (value reg : ℕ) →
    get (regs_replied regs w value) reg ≡
    (if eq_by_cmp nat_cmp reg 10 then Some (known_of w value) else cond (not (is_call_used reg)) (get regs reg) None)
got regs w value reg = get-insert nat_cmp_total (preserved regs) 10 (known_of w value) reg ∙
    ap (λ o. if eq_by_cmp nat_cmp reg 10 then Some (known_of w value) else o) (get_kept regs (λ reg. not (is_call_used reg)) reg)

chosen : (here used : Bool) (k : Known) (x y : Option Known) (w : Width) (v : ℕ) →
    (used ≡ false → option_and_then (known_in w) x ≡ Some v → option_and_then (known_in w) y ≡ Some v) →
    option_and_then (known_in w) (if here then Some k else cond (not used) x None) ≡ Some v →
    option_and_then (known_in w) (if here then Some k else cond (not used) y None) ≡ Some v
chosen true used k x y w v too is = is
chosen false true k x y w v too is = is
chosen false false k x y w v too is = too refl is

-- as much is known behind a reply, where so it was of what a call preserves
pub replied_too : (a b : Regs) (w : Width) (value reg : ℕ) → (is_call_used reg ≡ false → KnownToo a b reg) →
    KnownToo (regs_replied a w value) (regs_replied b w value) reg
replied_too a b w value zero too = λ v n is. is
replied_too a b w value (suc reg) too = λ v n is.
    ap (option_and_then (known_in v)) (got b w value (suc reg)) ∙
    chosen (eq_by_cmp nat_cmp (suc reg) 10) (is_call_used (suc reg)) (known_of w value) (get a (suc reg)) (get b (suc reg)) v n
    (λ kept. too kept v n) (sym (ap (option_and_then (known_in v)) (got a w value (suc reg))) ∙ is)
