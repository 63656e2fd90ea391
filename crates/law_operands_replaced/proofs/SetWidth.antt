-- A set that has an effect changes a register or memory, in a width.
use Rattle.std.proofs.Common.{◌≡◌, ℕ, List, Option, Some, None, refl, sym, ap, ◌∙◌}
use Rattle.std.specs.Prelude.{ℤ, option_and_then}
use Rattle.bits64.specs.declared.Width.{Width}
use Rattle.rtx_tree.specs.Code.{class_of_code}
use Rattle.rtx_tree.specs.declared.class.Class.TheVariants as class
use Rattle.rtx_tree.specs.declared.code.Code.{Code}
use Rattle.rtx_tree.specs.declared.code.Code.TheVariants as code
use Rattle.rtx_tree.specs.declared.machine.SymbolAt.{SymbolAt}
use Rattle.rtx_tree.specs.declared.memories.MemByte.{MemByte}
use Rattle.rtx_tree.specs.declared.tree.Rtx.{Rtx}
use Rattle.rtl_step.specs.Effect.{set_place, address_of, address_part, register_of, register_by}
use Rattle.rtl_step.specs.Regs.{Regs, known_of}
use Rattle.rtl_step.specs.Value.{value_of, of_two}
use Rattle.rtl_step.specs.declared.effect.Effect.{Effect}
use Rattle.rtl_step.specs.declared.effect.Effect.TheVariants.{Sets}

pub binary_none : (c : Code) (number : ℤ) (kids : List Rtx) → class_of_code c ≡ class.Binary → (address_part c kids ≡ None) × (register_by c number kids ≡ None)
binary_none code.Mem number kids is = absurd (let no : ⊥ = cc in no)
binary_none code.Reg number kids is = absurd (let no : ⊥ = cc in no)
binary_none code.Subreg number kids is = absurd (let no : ⊥ = cc in no)
binary_none _ number kids is = (refl, refl)

-- what is set by a set that has an effect has a width
pub set_width : (o : Option Width) (f : Width → Option Effect) (e : Effect) → option_and_then f o ≡ Some e → (w : Width) × (o ≡ Some w)
set_width None f e is = absurd (let no : ⊥ = cc in no)
set_width (Some w) f e is = (w, refl)

module _ (symbols : List SymbolAt) (regs : Regs) (m : List MemByte) where
  -- what is no register and no memory is not set
  pub no_register : (w : Option Width) (t s : Rtx) (e : Effect) → address_of t ≡ None → register_of t ≡ None →
      option_and_then (set_place (address_of t) symbols regs m t s) w ≡ Some e → ⊥
  no_register None t s e none none' is = let no : ⊥ = cc in no
  no_register (Some w) t s e none none' is =
      let f : ◌≡◌ {A = Option Effect} None (Some e) =
      sym (ap (λ r. of_two (λ reg value. Some (Sets reg (known_of w value))) r (value_of symbols regs m s w)) none') ∙
      sym (ap (λ a. set_place a symbols regs m t s w) none) ∙ is in let no : ⊥ = cc in no
