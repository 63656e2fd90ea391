-- What a single setting of a register or of memory does.
use Rattle.std.proofs.Common.{◌≡◌, ℕ, if◌then◌else◌, true, List, [], ◌∷◌, map, Option, Some, None, ap, ◌∙◌}
use Rattle.std.specs.Prelude.{ℤ, is_some, option_map, option_and_then}
use Rattle.std.specs.Int.{cast_unsigned, w64}
use Rattle.bits64.specs.Words.{low, sum_of}
use Rattle.bits64.specs.declared.Width.{Width}
use Rattle.bits64.specs.declared.Width.TheVariants.{W64}
use Rattle.rtx_tree.specs.Code.{class_of_code}
use Rattle.rtx_tree.specs.Patterns.{set_rtx, sum_rtx}
use Rattle.rtx_tree.specs.Tree.{node_of, reg_of, const_of}
use Rattle.rtx_tree.specs.declared.code.Code.TheVariants.{Mem}
use Rattle.rtx_tree.specs.declared.code.Mode.{Mode}
use Rattle.rtx_tree.specs.declared.machine.SymbolAt.{SymbolAt}
use Rattle.rtx_tree.specs.declared.memories.MemByte.{MemByte}
use Rattle.rtx_tree.specs.declared.tree.Rtx.{Rtx, out-Rtx, out-roll-Rtx}
use Rattle.rtx_tree.specs.declared.tree.Rtx.TheOpen.{Rtx-F}
use Rattle.run_memory.specs.RunMemory.{load}
use Rattle.rtl_step.specs.Effect.{effects_of, effects_by, effect_by, set_place, address_part, register_by}
use Rattle.rtl_step.specs.Regs.{Regs, known_of, reg_value}
use Rattle.rtl_step.specs.Value.{width_of, value_by, value_of, of_one, of_two}
use Rattle.rtl_step.specs.declared.effect.Effect.{Effect}
use Rattle.rtl_step.specs.declared.effect.Effect.TheVariants.{Sets, Stores}
use Rattle.rtl_step.proofs.Values.{value_read}
use Rattle.law_operands_replaced.proofs.ReadTrees.{read_in}

module _ (symbols : List SymbolAt) (regs : Regs) (memory : List MemByte) where
  -- ---- values

  value_open : (x : Rtx) (o : Rtx-F Rtx) (w : Width) → out-Rtx x ≡ o → value_of symbols regs memory x w ≡
      value_by symbols regs memory (class_of_code o.code) o.code o.number o.name (map (read_in symbols regs memory) o.kids) w
  value_open x o w is = value_read symbols regs memory x w ∙ ap (λ (o : Rtx-F Rtx).
      value_by symbols regs memory (class_of_code o.code) o.code o.number o.name (map (read_in symbols regs memory) o.kids) w) is

  pub value_reg : (mode : Mode) (r : ℕ) (w : Width) → value_of symbols regs memory (reg_of mode r) w ≡ reg_value regs r w
  value_reg mode r w = value_open (reg_of mode r) _ w (out-roll-Rtx _)

  pub value_const : (n : ℤ) (w : Width) → value_of symbols regs memory (const_of n) w ≡ Some (low w (cast_unsigned w64 n))
  value_const n w = value_open (const_of n) _ w (out-roll-Rtx _)

  pub value_mem : (mode : Mode) (address : Rtx) (w : Width) →
      value_of symbols regs memory (node_of Mem mode (address ∷ [])) w ≡ of_one (load w memory) (value_of symbols regs memory address W64)
  value_mem mode address w = value_open (node_of Mem mode (address ∷ [])) _ w (out-roll-Rtx _)

  value_sum : (x y : Rtx) → value_of symbols regs memory (sum_rtx x y) W64 ≡
      of_two (λ a b. Some (sum_of W64 a b)) (value_of symbols regs memory x W64) (value_of symbols regs memory y W64)
  value_sum x y = value_open (sum_rtx x y) _ W64 (out-roll-Rtx _)

  pub sum_is : (x y : Rtx) (a b : ℕ) → value_of symbols regs memory x W64 ≡ Some a → value_of symbols regs memory y W64 ≡ Some b →
      value_of symbols regs memory (sum_rtx x y) W64 ≡ Some (sum_of W64 a b)
  sum_is x y a b is is' = value_sum x y ∙
      ap (λ o. of_two (λ a b. Some (sum_of W64 a b)) o (value_of symbols regs memory y W64)) is ∙
      ap (of_two (λ a b. Some (sum_of W64 a b)) (Some a)) is'

  -- ---- effects

  opened : (target source : Rtx) (o : Rtx-F Rtx) → out-Rtx target ≡ o → effects_of symbols regs memory (set_rtx target source) ≡
      option_map (λ e. e ∷ []) (option_and_then (set_place (address_part o.code o.kids) symbols regs memory target source) (width_of o.mode))
  opened target source o is =
      ap (λ (p : Rtx-F Rtx). effects_by p.code (set_rtx target source) symbols regs memory) (out-roll-Rtx _) ∙
      ap (λ (p : Rtx-F Rtx). option_map (λ e. e ∷ []) (effect_by p.code p.kids symbols regs memory)) (out-roll-Rtx _) ∙
      ap (λ (p : Rtx-F Rtx). option_map (λ e. e ∷ [])
      (option_and_then (set_place (address_part p.code p.kids) symbols regs memory target source) (width_of p.mode))) is

  -- a register is set
  pub set_does : (mode : Mode) (w : Width) (r v : ℕ) (source : Rtx) → width_of mode ≡ Some w → value_of symbols regs memory source w ≡ Some v →
      effects_of symbols regs memory (set_rtx (reg_of mode r) source) ≡ Some (Sets r (known_of w v) ∷ [])
  set_does mode w r v source wide is =
      opened (reg_of mode r) source _ (out-roll-Rtx _) ∙
      ap (λ o. option_map (λ e. e ∷ []) (option_and_then (set_place None symbols regs memory (reg_of mode r) source) o)) wide ∙
      ap (λ (o : Rtx-F Rtx). option_map (λ e. e ∷ []) (of_two (λ reg value. Some (Sets reg (known_of w value)))
      (register_by o.code o.number o.kids) (value_of symbols regs memory source w))) (out-roll-Rtx _) ∙
      ap (λ o. option_map (λ e. e ∷ []) (of_two (λ reg value. Some (Sets reg (known_of w value))) (Some r) o)) is

  stores_if : Width → ℕ → ℕ → Option Effect
  stores_if w at value = if is_some (load w memory at) then Some (Stores w at value) else None

  -- memory is set
  pub store_does : (mode : Mode) (w : Width) (at v : ℕ) (address source : Rtx) → width_of mode ≡ Some w →
      value_of symbols regs memory address W64 ≡ Some at → value_of symbols regs memory source w ≡ Some v → is_some (load w memory at) ≡ true →
      effects_of symbols regs memory (set_rtx (node_of Mem mode (address ∷ [])) source) ≡ Some (Stores w at v ∷ [])
  unfolding stores_if
  store_does mode w at v address source wide at_is is has =
      opened (node_of Mem mode (address ∷ [])) source _ (out-roll-Rtx _) ∙
      ap (λ o. option_map (λ e. e ∷ []) (option_and_then (set_place (Some address) symbols regs memory (node_of Mem mode (address ∷ [])) source) o)) wide ∙
      ap (λ o. option_map (λ e. e ∷ []) (of_two (stores_if w) o (value_of symbols regs memory source w))) at_is ∙
      ap (λ o. option_map (λ e. e ∷ []) (of_two (stores_if w) (Some at) o)) is ∙
      ap (λ b. option_map (λ e. e ∷ []) (if b then Some (Stores w at v) else None)) has
