-- What stands for an operand that stays is memory, or the operand is a sum.
use Rattle.std.proofs.Common.{◌≡◌, ◌⊎◌, inl, ℕ, Bool, true, false, if◌then◌else◌, Some, None, refl, sym, ap, subst, ◌∙◌}
use Rattle.std.specs.Prelude.{is_some}
use Rattle.law_operands_replaced.specs.rtx_tree.declared.class.Class.TheVariants as class
use Rattle.law_operands_replaced.specs.rtx_tree.declared.tree.Rtx.{Rtx}
use Rattle.law_operands_replaced.specs.rtx_tree.Tree.{reg_of}
use Rattle.law_operands_replaced.specs.rtl_func.Shapes.{class_at}
use Rattle.law_operands_replaced.specs.reload_operands.declared.operand.Operand.{Operand}
use Rattle.reload_moves.specs.declared.part.Part.{Part}
use Rattle.reload_moves.specs.Moves.{own_of, base_of, far_of}
use Rattle.reload_moves.specs.Registers.{asks_of}
use Rattle.reload_choice.specs.reload_fit.Addressed.{on_register}
use Rattle.reload_choice.specs.declared.given.Given.{Given}
use Rattle.reload_choice.specs.declared.given.Plan.{Plan}
use Rattle.reload_choice.specs.Insns.{new_tree}
use Rattle.reload_choice.specs.Sound.{IsPart, IsSoundPlan}
use Rattle.law_operands_fetched.proofs.OnRegister.{IsOperand, based_class, far_class}
use Rattle.law_operands_fetched.proofs.TurnParts.{some_there}

module _ (given : Given) (plan : Plan) (sound : IsSoundPlan given plan) (i : ℕ) (p : Part) (x : Operand)
    (part : IsPart given plan i p x) (is : IsOperand x) where
  abbrev IsPlaced : Rtx → Type 0
  IsPlaced y = (class_at y ≡ class.Memory) ⊎ (class_at x.tree ≡ class.Binary)

  one_of : (y z : Rtx) → Some y ≡ Some z → IsPlaced y → IsPlaced z
  one_of y z same placed = let e : y ≡ z = cc in subst IsPlaced e placed

  by : (has far : Bool) (y : Rtx) → p.needs.has_base ≡ has → is_some p.needs.far ≡ far →
      (if has then Some (on_register (base_of (asks_of plan.parts) p) x) else if far then Some
      (on_register (far_of (asks_of plan.parts) p) x) else None) ≡ Some y →
      IsPlaced y
  by true far y has o at =
      let b = some_there x.base ((sound.says i p x part).base has) in
      one_of _ y at (based_class x b.0 (base_of (asks_of plan.parts) p) is b.1)
  by false true y has o at =
      let n = some_there p.needs.far o in
      one_of _ y at (inl (far_class x n.0 (far_of (asks_of plan.parts) p) is (sym (sound.says i p x part).far ∙ n.1)))
  by false false y has o at = absurd (let no : ⊥ = cc in no)

  pub new_place : (y : Rtx) → p.is_moved ≡ false → new_tree (asks_of plan.parts) p x ≡ Some y → IsPlaced y
  new_place y stays at = by p.needs.has_base (is_some p.needs.far) y refl refl
      (sym (ap (λ m. if m then Some (reg_of x.mode (own_of (asks_of plan.parts) p))
      else if p.needs.has_base then Some (on_register (base_of (asks_of plan.parts) p) x)
      else if is_some p.needs.far then Some (on_register (far_of (asks_of plan.parts) p) x) else None) stays) ∙ at)
