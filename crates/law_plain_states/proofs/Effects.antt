-- What an instruction does that sets a register: its pattern is written out.
use Rattle.std.proofs.Common.{◌≡◌, ℕ, suc, pos, [], ◌∷◌, ◌++◌, Some, ◌∙◌, ap}
use Rattle.std.specs.Prelude.{ℤ}
use Rattle.bits64.specs.declared.Width.{Width}
use Rattle.bits64.specs.declared.Width.TheVariants.{W64}
use Rattle.sym_state.specs.State.{Access}
use Rattle.rtx_tree.specs.declared.code.Code.TheVariants.{Set, Reg, Mem}
use Rattle.rtx_tree.specs.declared.code.Mode.{Mode}
use Rattle.rtx_tree.specs.declared.code.Mode.TheVariants.{Void}
use Rattle.rtl_step.specs.Value.{width_of}
use Rattle.sym_insns.specs.Value.{Made, reading_step, made_of}
use Rattle.sym_insns.specs.Effects as effects
use Rattle.sym_insns.specs.Effects.{effects_of, effects_by, effect_by, set_in, set_place, set_register, set_memory}
use Rattle.rtl_step.specs.Effect.{register_by, address_part}
use Rattle.rtx_open.proofs.Expressions.{Written, node, none, with, rtx, outside_is, gathered, gathers}

-- (reg:MODE NUMBER), but register 0
abbrev pub register : Mode → ℕ → Written
register m n = node Reg m (pos (suc n)) [] none

-- (set PLACE SOURCE)
abbrev pub set_of : Written → Written → Written
set_of place source = node Set Void (pos 0) [] (with place (with source none))

-- the value of an expression that is written out
abbrev pub made : Written → Width → Made
made x w = (gathered (reading_step [] []) x).made w

pub made_is : (x : Written) (w : Width) → made_of [] [] (rtx x) w ≡ made x w
made_is x w = ap (λ r. r.made w) (gathers (reading_step [] []) x)

-- a register is set
pub sets_register : (m : Mode) (n : ℕ) (x : Written) (w : Width) → width_of m ≡ Some w →
    effects_of [] [] (rtx (set_of (register m n) x)) ≡ record { effect = effects.Sets (suc n) (made x w).term; needs = (made x w).needs } ∷ []
sets_register m n x w wide =
    let whole = set_of (register m n) x in
    let place = register m n in
    ap (λ o. effects_by o.code (rtx whole) [] []) (outside_is whole) ∙
    (ap (λ o. effect_by o.code o.kids [] [] ∷ []) (outside_is whole) ∙
    (ap (λ o. set_in (width_of o.mode) [] [] (rtx place) (rtx x) ∷ []) (outside_is place) ∙
    (ap (λ v. set_in v [] [] (rtx place) (rtx x) ∷ []) wide ∙
    (ap (λ o. set_place (address_part o.code o.kids) [] [] (rtx place) (rtx x) w ∷ []) (outside_is place) ∙
    (ap (λ o. set_register (register_by o.code o.number o.kids) (made_of [] [] (rtx x) w) ∷ []) (outside_is place) ∙
    ap (λ v. set_register (Some (suc n)) v ∷ []) (made_is x w))))))

-- (mem:MODE ADDRESS), whose number no one looks at
abbrev pub memory_at : Mode → ℤ → Written → Written
memory_at m z address = node Mem m z [] (with address none)

-- memory is set
pub stores_memory : (m : Mode) (z : ℤ) (address x : Written) (w : Width) → width_of m ≡ Some w →
    effects_of [] [] (rtx (set_of (memory_at m z address) x)) ≡
    record { effect = effects.Stores (made address W64).term (made x w).term; needs = (made x w).needs ++ ((made address W64).needs ++ Access (made address W64).term w ∷ []) } ∷ []
stores_memory m z address x w wide =
    let whole = set_of (memory_at m z address) x in
    let place = memory_at m z address in
    ap (λ o. effects_by o.code (rtx whole) [] []) (outside_is whole) ∙
    (ap (λ o. effect_by o.code o.kids [] [] ∷ []) (outside_is whole) ∙
    (ap (λ o. set_in (width_of o.mode) [] [] (rtx place) (rtx x) ∷ []) (outside_is place) ∙
    (ap (λ v. set_in v [] [] (rtx place) (rtx x) ∷ []) wide ∙
    (ap (λ o. set_place (address_part o.code o.kids) [] [] (rtx place) (rtx x) w ∷ []) (outside_is place) ∙
    (ap (λ v. set_memory v (made_of [] [] (rtx x) w) w ∷ []) (made_is address W64) ∙ ap (λ v. set_memory (made address W64) v w ∷ []) (made_is x w))))))
