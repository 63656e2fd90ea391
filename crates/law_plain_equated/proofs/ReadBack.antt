-- A new register that was set is read as what it was set to, and a set of it is a new effect.
use Rattle.std.proofs.Common.{◌≡◌, ◌≢◌, ℕ, suc, ◌+◌, ◌==◌, pos, Bool, true, false, if◌then◌else◌, List, [], ◌∷◌, ◌++◌, Option, Some, None, refl, sym, ap, subst, ◌∙◌, arith}
use Rattle.std.proofs.lemmas.Bool.Decides.{nat_tests}
use Rattle.bits64.specs.declared.Width.{Width}
use Rattle.bits64.specs.declared.Width.TheVariants.{W8, W16, W32, W64}
use Rattle.rtx_tree.specs.declared.code.Mode.{Mode}
use Rattle.rtx_tree.specs.declared.tree.Rtx.{Rtx, out-Rtx, out-roll-Rtx}
use Rattle.rtx_tree.specs.Patterns.{set_rtx}
use Rattle.rtx_tree.specs.Tree.{mentions_reg}
use Rattle.rtl_step.specs.Value.{width_of}
use Rattle.rtl_step.specs.Effect.{register_of, address_of}
use Rattle.term_tree.specs.Tree as trees
use Rattle.term_tree.specs.Tree.{Tree}
use Rattle.term_tree.specs.Form.{narrower}
use Rattle.term_mean.specs.Compared.{low_bits}
use Rattle.sym_state.specs.State.{Changed, Lost, own_register}
use Rattle.sym_state.specs.Registers.{held, changed, term_held, need_of, read, read_needs}
use Rattle.sym_diff.proofs.NumberLaws.{itself}
use Rattle.sym_insns.specs.Shape.{all_natural}
use Rattle.sym_insns.specs.Value.{Made, made_of, of_register}
use Rattle.sym_insns.specs.Effects.{Effected, effects_of, effects_by, effect_by, set_effect, set_in, set_place, set_register, set_memory}
use Rattle.rtx_open.proofs.Expressions.{Written, rtx}
use Rattle.law_plain_terms.proofs.Back.{low_same}
use Rattle.law_plain_states.proofs.Effects.{register, made_is}
use Rattle.law_fresh_registers.proofs.Spared.{made_same}

-- ---- what was set is read

not_narrower : (w : Width) → narrower w w ≡ false
not_narrower W8 = refl
not_narrower W16 = refl
not_narrower W32 = refl
not_narrower W64 = refl

abbrev pub set_to : ℕ → Tree → List Changed
set_to k t = changed (suc k) (Some t) ∷ []

pub read_back : (k : ℕ) (t : Tree) (w : Width) → trees.width_of t ≡ w → read (set_to k t) (suc k) w ≡ t
read_back k t w wide =
    ap (λ b. term_held (if b then Some (Some t) else None) (suc k) w) (itself (suc k)) ∙
    (ap (λ v. if narrower v w then low_bits w (own_register (suc k)) else low_bits w t) wide ∙ (ap (λ b. if b then low_bits w (own_register (suc k)) else low_bits w t) (not_narrower w) ∙ low_same w t wide))

pub needs_back : (k : ℕ) (t : Tree) (w : Width) → trees.width_of t ≡ w → read_needs (set_to k t) (suc k) w ≡ []
needs_back k t w wide =
    ap (λ b. need_of (if b then Some (Some t) else None) (suc k) w) (itself (suc k)) ∙
    (ap (λ v. if narrower v w then Lost (suc k) w ∷ [] else []) wide ∙ ap (λ b. if b then Lost (suc k) w ∷ [] else []) (not_narrower w))

-- ---- other registers are read as before

pub held_others : (k : ℕ) (t : Tree) (x : Rtx) → mentions_reg (suc k) x ≡ false → (q : ℕ) → mentions_reg (suc q) x ≡ true → held (set_to k t) (suc q) ≡ held [] (suc q)
held_others k t x none q some = ap (λ b. if b then Some (Some t) else None) (apart (suc k == suc q) refl)
  where
    clash : (b : Bool) → b ≡ false → b ≡ true → ⊥
    clash b one other = cc

    apart : (b : Bool) → (suc k == suc q) ≡ b → (suc k == suc q) ≡ false
    apart true is = let same : suc k ≡ suc q = grind (arith, nat_tests, is) in absurd (clash (mentions_reg (suc k) x) none (ap (λ r. mentions_reg r x) same ∙ some))
    apart false is = is

pub made_spared : (k : ℕ) (t : Tree) (x : Rtx) (w : Width) → all_natural x ≡ true → mentions_reg (suc k) x ≡ false → made_of (set_to k t) [] x w ≡ made_of [] [] x w
made_spared k t x w natural none = made_same (set_to k t) [] [] x w natural (held_others k t x none)

-- ---- an effect

-- the same is set in the same place, whatever the registers otherwise
pub set_same : (regs : List Changed) (place source other : Rtx) (w : Width) → width_of (out-Rtx place).mode ≡ Some w → made_of regs [] source w ≡ made_of [] [] other w →
    ((a : Rtx) → address_of place ≡ Some a → made_of regs [] a W64 ≡ made_of [] [] a W64) → set_effect regs [] place source ≡ set_effect [] [] place other
set_same regs place source other w wide same spared =
    ap (λ v. set_in v regs [] place source) wide ∙ (by (address_of place) refl ∙ sym (ap (λ v. set_in v [] [] place other) wide))
  where
    by : (o : Option Rtx) → address_of place ≡ o → set_place (address_of place) regs [] place source w ≡ set_place (address_of place) [] [] place other w
    by None is =
        ap (λ o. set_place o regs [] place source w) is ∙ (ap (λ v. set_register (register_of place) v) same ∙ sym (ap (λ o. set_place o [] [] place other w) is))
    by (Some a) is =
        ap (λ o. set_place o regs [] place source w) is ∙ (ap (λ v. set_memory v (made_of regs [] source w) w) (spared a is) ∙
        (ap (λ v. set_memory (made_of [] [] a W64) v w) same ∙ sym (ap (λ o. set_place o [] [] place other w) is)))

pub set_effects : (regs : List Changed) (place source : Rtx) → effects_of regs [] (set_rtx place source) ≡ set_effect regs [] place source ∷ []
set_effects regs place source =
    ap (λ o. effects_by o.code (set_rtx place source) regs []) (out-roll-Rtx _) ∙ ap (λ o. effect_by o.code o.kids regs [] ∷ []) (out-roll-Rtx _)
