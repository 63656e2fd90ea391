-- One instruction of a prologue or an epilogue: a step that sets a register, or stores one.
use Rattle.std.proofs.Common.{◌≡◌, ℕ, ◌+◌, if◌then◌else◌, true, List, [], ◌∷◌, Option, Some, None, refl, ap, ◌∙◌}
use Rattle.std.specs.Prelude.{is_some, option_map, option_and_then, unwrap_or}
use Rattle.bits64.specs.declared.Width.TheVariants.{W64}
use Rattle.rtx_tree.specs.Patterns.{set_rtx}
use Rattle.rtx_tree.specs.Tree.{node_of, reg_of}
use Rattle.rtx_tree.specs.declared.code.Code.TheVariants.{Mem}
use Rattle.rtx_tree.specs.declared.code.Mode.TheVariants.{DI}
use Rattle.rtx_tree.specs.declared.function.Function.{Function}
use Rattle.rtx_tree.specs.declared.function.Insn.{Insn}
use Rattle.rtx_tree.specs.declared.function.Kind.TheVariants as kind
use Rattle.rtx_tree.specs.declared.machine.SymbolAt.{SymbolAt}
use Rattle.rtx_tree.specs.declared.machine.World.{World}
use Rattle.rtx_tree.specs.declared.memories.MemByte.{MemByte}
use Rattle.rtx_tree.specs.declared.tree.Rtx.{Rtx, out-roll-Rtx}
use Rattle.rtx_tree.specs.declared.tree.Rtx.TheOpen.{Rtx-F}
use Rattle.run_memory.specs.RunMemory.{load, store, with_number}
use Rattle.rtl_step.specs.Effect.{effects_of, effects_by, effect_by, set_place, address_part}
use Rattle.rtl_step.specs.Regs.{Regs, known_of, reg_value, with_reg}
use Rattle.rtl_step.specs.Step.{step, after_effects}
use Rattle.rtl_step.specs.Value.{width_of, value_of, of_one, of_two}
use Rattle.rtl_step.specs.declared.effect.Effect.{Effect}
use Rattle.rtl_step.specs.declared.effect.Effect.TheVariants.{Sets, Stores}
use Rattle.rtl_step.specs.declared.step.State.{State}
use Rattle.rtl_step.specs.declared.step.StepEnd.TheVariants.{Next}
use Rattle.law_frame.proofs.Insns.{effects_set, value_open, value_reg}
use Rattle.law_window_replaced.proofs.Stands.{Stands, step_is}
use Rattle.law_frame.specs.Frame.{plain_with}

module _ (symbols : List SymbolAt) (regs : Regs) (memory : List MemByte) where
  abbrev word : Rtx → Rtx
  word address = node_of Mem DI (address ∷ [])

  -- the 64 bits at an address
  pub value_word : (address : Rtx) (at : ℕ) → value_of symbols regs memory address W64 ≡ Some at →
      value_of symbols regs memory (word address) W64 ≡ load W64 memory at
  value_word address at is = value_open symbols regs memory (word address) _ (out-roll-Rtx _) ∙ ap (of_one (load W64 memory)) is

  stores_if : ℕ → ℕ → Option Effect
  stores_if at value = if is_some (load W64 memory at) then Some (Stores W64 at value) else None

  pub effects_store : (address source : Rtx) (at v : ℕ) → value_of symbols regs memory address W64 ≡ Some at →
      value_of symbols regs memory source W64 ≡ Some v → is_some (load W64 memory at) ≡ true →
      effects_of symbols regs memory (set_rtx (word address) source) ≡ Some (Stores W64 at v ∷ [])
  unfolding stores_if
  effects_store address source at v at_is is has =
      ap (λ (o : Rtx-F Rtx). effects_by o.code (set_rtx (word address) source) symbols regs memory) (out-roll-Rtx _) ∙
      ap (λ (o : Rtx-F Rtx). option_map (λ e. e ∷ []) (effect_by o.code o.kids symbols regs memory)) (out-roll-Rtx _) ∙
      ap (λ (o : Rtx-F Rtx). option_map (λ e. e ∷ [])
      (option_and_then (set_place (address_part o.code o.kids) symbols regs memory (word address) source) (width_of o.mode))) (out-roll-Rtx _) ∙
      ap (λ o. option_map (λ e. e ∷ []) (of_two stores_if o (value_of symbols regs memory source W64))) at_is ∙
      ap (λ o. option_map (λ e. e ∷ []) (of_two stores_if (Some at) o)) is ∙
      ap (λ b. option_map (λ e. e ∷ []) (if b then Some (Stores W64 at v) else None)) has

some_of : (o : Option ℕ) → is_some o ≡ true → (x : ℕ) × (o ≡ Some x)
some_of None is = absurd (let no : ⊥ = cc in no)
some_of (Some x) is = (x, refl)

module _ (world : World) (g : Function) where
  -- the states behind them
  abbrev pub after_set : State → ℕ → ℕ → ℕ → State
  after_set t q r v = record t { next = q + 1; regs = with_reg t.regs r (known_of W64 v) }

  abbrev pub after_store : State → ℕ → ℕ → ℕ → State
  after_store t q at v = record t { next = q + 1; memory = with_number t.memory at 8 v }

  pub set_step : (t : State) (uid r v q : ℕ) (source : Rtx) (rest : List Insn) →
      Stands g.insns t.next (plain_with uid (set_rtx (reg_of DI r) source) ∷ rest) q →
      value_of world.symbols t.regs t.memory source W64 ≡ Some v → step world g t ≡ (Next, after_set t q r v)
  set_step t uid r v q source rest stands is =
      step_is world g t (plain_with uid (set_rtx (reg_of DI r) source)) rest q kind.Plain stands refl refl ∙
      ap (after_effects t q) (effects_set world.symbols t.regs t.memory r source ∙
      ap (option_and_then (λ value. Some (Sets r (known_of W64 value) ∷ []))) is)

  pub store_step : (t : State) (uid r at v q : ℕ) (address : Rtx) (rest : List Insn) →
      Stands g.insns t.next (plain_with uid (set_rtx (node_of Mem DI (address ∷ [])) (reg_of DI r)) ∷ rest) q →
      value_of world.symbols t.regs t.memory address W64 ≡ Some at → reg_value t.regs r W64 ≡ Some v →
      is_some (load W64 t.memory at) ≡ true → step world g t ≡ (Next, after_store t q at v)
  store_step t uid r at v q address rest stands at_is is has =
      let old = some_of (load W64 t.memory at) has in
      let stored : store W64 t.memory at v ≡ Some (with_number t.memory at 8 v) = ap (option_map (λ _. with_number t.memory at 8 v)) old.1 in
      step_is world g t (plain_with uid (set_rtx (node_of Mem DI (address ∷ [])) (reg_of DI r))) rest q kind.Plain stands refl refl ∙
      ap (after_effects t q) (effects_store world.symbols t.regs t.memory address (reg_of DI r) at v at_is
      (value_reg world.symbols t.regs t.memory r ∙ is) has) ∙
      ap (λ o. (Next, record t { next = q + 1; memory = unwrap_or o t.memory })) stored
