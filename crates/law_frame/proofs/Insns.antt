-- The values of registers, constants and sums, and what a set of a register does.
use Rattle.std.proofs.Common.{◌≡◌, ℕ, List, [], ◌∷◌, map, Option, Some, None, refl, ap, ◌∙◌}
use Rattle.std.specs.Prelude.{ℤ, option_and_then, option_map}
use Rattle.std.specs.Int.{cast_unsigned, w64}
use Rattle.bits64.specs.Words.{low, sum_of}
use Rattle.bits64.specs.declared.Width.TheVariants.{W64}
use Rattle.rtx_tree.specs.Tree.{reg_of, const_of}
use Rattle.rtx_tree.specs.declared.code.Mode.TheVariants.{DI}
use Rattle.rtx_tree.specs.declared.memories.MemByte.{MemByte}
use Rattle.rtx_tree.specs.declared.machine.SymbolAt.{SymbolAt}
use Rattle.rtx_tree.specs.declared.tree.Rtx.{Rtx, out-Rtx, out-roll-Rtx}
use Rattle.rtx_tree.specs.declared.tree.Rtx.TheOpen.{Rtx-F}
use Rattle.rtx_tree.specs.Code.{class_of_code}
use Rattle.rtx_tree.specs.Patterns.{sum_rtx, set_rtx}
use Rattle.rtl_step.specs.Regs.{Regs, known_of, reg_value}
use Rattle.rtl_step.specs.Value.{Reading, width_of, value_by, value_of, of_two}
use Rattle.rtl_step.specs.Effect.{effects_of, effects_by, effect_by, address_part, set_place, register_by}
use Rattle.rtl_step.specs.declared.effect.Effect.TheVariants.{Sets}
use Rattle.rtl_step.proofs.Values.{value_read}

module _ (symbols : List SymbolAt) (regs : Regs) (memory : List MemByte) where
  abbrev pub as_read : Rtx → Reading
  as_read kid = record { width = width_of (out-Rtx kid).mode; value = value_of symbols regs memory kid }

  -- the value of an expression, by its code, number, name and parts
  pub value_open : (x : Rtx) (o : Rtx-F Rtx) → out-Rtx x ≡ o → value_of symbols regs memory x W64 ≡ value_by symbols regs memory (class_of_code o.code) o.code o.number o.name (map as_read o.kids) W64
  value_open x o is = value_read symbols regs memory x W64 ∙ ap (λ (o : Rtx-F Rtx). value_by symbols regs memory (class_of_code o.code) o.code o.number o.name (map as_read o.kids) W64) is

  -- the value of a register, a constant and a sum
  pub value_reg : (a : ℕ) → value_of symbols regs memory (reg_of DI a) W64 ≡ reg_value regs a W64
  value_reg a = value_open (reg_of DI a) _ (out-roll-Rtx _)

  pub value_const : (n : ℤ) → value_of symbols regs memory (const_of n) W64 ≡ Some (low W64 (cast_unsigned w64 n))
  value_const n = value_open (const_of n) _ (out-roll-Rtx _)

  pub value_sum : (x y : Rtx) → value_of symbols regs memory (sum_rtx x y) W64 ≡
      option_and_then (λ a. option_and_then (λ b. Some (sum_of W64 a b)) (value_of symbols regs memory y W64)) (value_of symbols regs memory x W64)
  value_sum x y = value_open (sum_rtx x y) _ (out-roll-Rtx _)

  alone : (t : ℕ) (value : Option ℕ) → option_map (λ e. e ∷ []) (option_and_then (λ v. Some (Sets t (known_of W64 v))) value) ≡ option_and_then (λ v. Some (Sets t (known_of W64 v) ∷ [])) value
  alone t None = refl
  alone t (Some value) = refl

  -- what a set of a register does
  pub effects_set : (t : ℕ) (source : Rtx) → effects_of symbols regs memory (set_rtx (reg_of DI t) source) ≡
      option_and_then (λ value. Some (Sets t (known_of W64 value) ∷ [])) (value_of symbols regs memory source W64)
  effects_set t source =
      ap (λ (o : Rtx-F Rtx). effects_by o.code (set_rtx (reg_of DI t) source) symbols regs memory) (out-roll-Rtx _) ∙
      ap (λ (o : Rtx-F Rtx). option_map (λ e. e ∷ []) (effect_by o.code o.kids symbols regs memory)) (out-roll-Rtx _) ∙
      ap (λ (o : Rtx-F Rtx). option_map (λ e. e ∷ []) (option_and_then (set_place (address_part o.code o.kids) symbols regs memory (reg_of DI t) source) (width_of o.mode))) (out-roll-Rtx _) ∙
      ap (λ (o : Rtx-F Rtx). option_map (λ e. e ∷ []) (of_two (λ reg value. Some (Sets reg (known_of W64 value))) (register_by o.code o.number o.kids) (value_of symbols regs memory source W64))) (out-roll-Rtx _) ∙
      alone t (value_of symbols regs memory source W64)
