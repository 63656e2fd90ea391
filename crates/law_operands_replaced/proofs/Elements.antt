-- What a set has for an effect where its target and its source are replaced.
use Rattle.std.proofs.Common.{◌≡◌, ℕ, if◌then◌else◌, Bool, true, false, List, Option, Some, None, refl, sym, ap, subst, ◌∙◌}
use Rattle.std.specs.Prelude.{is_some, option_and_then}
use Rattle.bits64.specs.declared.Width.{Width}
use Rattle.bits64.specs.declared.Width.TheVariants.{W64}
use Rattle.rtx_tree.specs.Tree.{reg_of}
use Rattle.rtx_tree.specs.declared.code.Mode.{Mode}
use Rattle.rtx_tree.specs.declared.machine.SymbolAt.{SymbolAt}
use Rattle.rtx_tree.specs.declared.memories.MemByte.{MemByte}
use Rattle.rtx_tree.specs.declared.tree.Rtx.{Rtx, out-roll-Rtx}
use Rattle.rtx_tree.specs.declared.tree.Rtx.TheOpen.{Rtx-F}
use Rattle.run_memory.specs.RunMemory.{load}
use Rattle.rtl_func.specs.Shapes.{mode_at}
use Rattle.rtl_step.specs.Effect.{address_of, address_part, register_of, register_by, set_place, set_effect}
use Rattle.rtl_step.specs.Regs.{Regs, known_of}
use Rattle.rtl_step.specs.Value.{width_of, value_of, of_two}
use Rattle.rtl_step.specs.declared.effect.Effect.{Effect}
use Rattle.rtl_step.specs.declared.effect.Effect.TheVariants.{Sets, Stores}
use Rattle.rtl_step.proofs.Too.{Too, too_two}
use Rattle.law_operands_replaced.proofs.Readings.{IsOwn, ReadsAs}
use Rattle.law_operands_replaced.proofs.ReadTrees.{read_in}

module _ (symbols : List SymbolAt) (regs other : Regs) (memory : List MemByte) where
  abbrev pub Source : Rtx → Rtx → Width → Type 0
  Source s s' w = Too (value_of symbols regs memory s w) (value_of symbols other memory s' w)

  -- a source that is read in the mode of the target
  pub source_reads : (s s' : Rtx) (w : Width) → IsOwn (width_of (mode_at s')) w →
      ReadsAs (read_in symbols regs memory s) (read_in symbols other memory s') → Source s s' w
  source_reads s s' w own reads = reads.values w own

  -- ---- a target that stays

  by_width : (o : Option Width) (address : Option Rtx) (t s s' : Rtx) → address ≡ None → ((w : Width) → o ≡ Some w → Source s s' w) →
      Too (option_and_then (set_place address symbols regs memory t s) o) (option_and_then (set_place address symbols other memory t s') o)
  by_width None address t s s' none source = λ v is. absurd (let no : ⊥ = cc in no)
  by_width (Some w) None t s s' none source =
      too_two (λ reg value. Some (Sets reg (known_of w value))) (register_of t) (register_of t) (value_of symbols regs memory s w)
      (value_of symbols other memory s' w) (λ v is. is) (source w refl)
  by_width (Some w) (Some a) t s s' none source = absurd (let no : ⊥ = cc in no)

  -- a register, or the low part of one
  pub register_stays : (t s s' : Rtx) → address_of t ≡ None → ((w : Width) → width_of (mode_at t) ≡ Some w → Source s s' w) →
      Too (set_effect symbols regs memory t s) (set_effect symbols other memory t s')
  register_stays t s s' none source = by_width (width_of (mode_at t)) (address_of t) t s s' none source

  memory_by : (o : Option Width) (t t' s s' a a' : Rtx) → Too (value_of symbols regs memory a W64) (value_of symbols other memory a' W64) →
      ((w : Width) → o ≡ Some w → Source s s' w) →
      Too (option_and_then (set_place (Some a) symbols regs memory t s) o) (option_and_then (set_place (Some a') symbols other memory t' s') o)
  memory_by None t t' s s' a a' address source = λ v is. absurd (let no : ⊥ = cc in no)
  memory_by (Some w) t t' s s' a a' address source =
      too_two (λ at value. if is_some (load w memory at) then Some (Stores w at value) else None) (value_of symbols regs memory a W64)
      (value_of symbols other memory a' W64) (value_of symbols regs memory s w) (value_of symbols other memory s' w) address (source w refl)

  -- memory, at an address with the same value
  pub memory_stays : (t t' s s' a a' : Rtx) → address_of t ≡ Some a → address_of t' ≡ Some a' → width_of (mode_at t') ≡ width_of (mode_at t) →
      Too (value_of symbols regs memory a W64) (value_of symbols other memory a' W64) →
      ((w : Width) → width_of (mode_at t) ≡ Some w → Source s s' w) →
      Too (set_effect symbols regs memory t s) (set_effect symbols other memory t' s')
  memory_stays t t' s s' a a' is is' mode address source v at =
      ap (λ o. option_and_then (set_place o symbols other memory t' s') (width_of (mode_at t'))) is' ∙
      ap (option_and_then (set_place (Some a') symbols other memory t' s')) mode ∙
      memory_by (width_of (mode_at t)) t t' s s' a a' address source v
      (sym (ap (λ o. option_and_then (set_place o symbols regs memory t s) (width_of (mode_at t))) is) ∙ at)

  -- ---- a target that is moved

  -- what is set: a register in a width, or memory
  pub data IsSet (w : Width) (v : ℕ) : Effect → Type 0 where
    register : (r : ℕ) → IsSet w v (Sets r (known_of w v))
    place : (at : ℕ) → is_some (load w memory at) ≡ true → IsSet w v (Stores w at v)

  -- the value that a set has taken
  pub record Taken (s : Rtx) (w : Width) (e : Effect) : Type 0 where
    pub value : ℕ
    pub value_is : value_of symbols regs memory s w ≡ Some value
    pub sets : IsSet w value e

  register_taken : (s : Rtx) (w : Width) (r v : Option ℕ) (e : Effect) → value_of symbols regs memory s w ≡ v →
      of_two (λ reg value. Some (Sets reg (known_of w value))) r v ≡ Some e → Taken s w e
  register_taken s w None v e is at = absurd (let no : ⊥ = cc in no)
  register_taken s w (Some r) None e is at = absurd (let no : ⊥ = cc in no)
  register_taken s w (Some r) (Some v) e is at = let here : Sets r (known_of w v) ≡ e = cc in
      record { value = v; value_is = is; sets = subst (IsSet w v) here (register r) }

  place_by : (b : Bool) (w : Width) (at v : ℕ) (e : Effect) → is_some (load w memory at) ≡ b → (if b then Some (Stores w at v) else None) ≡ Some e →
      IsSet w v e
  place_by true w at v e there is = let here : Stores w at v ≡ e = cc in subst (IsSet w v) here (place at there)
  place_by false w at v e there is = absurd (let no : ⊥ = cc in no)

  place_taken : (s : Rtx) (w : Width) (a v : Option ℕ) (e : Effect) → value_of symbols regs memory s w ≡ v →
      of_two (λ at value. if is_some (load w memory at) then Some (Stores w at value) else None) a v ≡ Some e → Taken s w e
  place_taken s w None v e is at = absurd (let no : ⊥ = cc in no)
  place_taken s w (Some a) None e is at = absurd (let no : ⊥ = cc in no)
  place_taken s w (Some a) (Some v) e is at =
      record { value = v; value_is = is; sets = place_by (is_some (load w memory a)) w a v e refl at }

  taken_by : (address : Option Rtx) (t s : Rtx) (w : Width) (e : Effect) → set_place address symbols regs memory t s w ≡ Some e → Taken s w e
  taken_by None t s w e is = register_taken s w (register_of t) (value_of symbols regs memory s w) e refl is
  taken_by (Some a) t s w e is = place_taken s w (value_of symbols regs memory a W64) (value_of symbols regs memory s w) e refl is

  -- a set has taken its source in the mode of its target
  pub taken : (t s : Rtx) (w : Width) (e : Effect) → width_of (mode_at t) ≡ Some w → set_effect symbols regs memory t s ≡ Some e → Taken s w e
  taken t s w e wide is = taken_by (address_of t) t s w e
      (sym (ap (option_and_then (set_place (address_of t) symbols regs memory t s)) wide) ∙ is)

  -- the register into whose place it is moved is set to the same value
  pub moved_set : (s s' : Rtx) (mode : Mode) (own : ℕ) (w : Width) (e : Effect) → width_of mode ≡ Some w → Source s s' w → (took : Taken s w e) →
      set_effect symbols other memory (reg_of mode own) s' ≡ Some (Sets own (known_of w took.value))
  moved_set s s' mode own w e wide source took =
      ap (λ (o : Rtx-F Rtx). option_and_then (set_place (address_part o.code o.kids) symbols other memory (reg_of mode own) s') (width_of o.mode)) (out-roll-Rtx _) ∙
      ap (option_and_then (set_place None symbols other memory (reg_of mode own) s')) wide ∙
      ap (λ (o : Rtx-F Rtx). of_two (λ reg value. Some (Sets reg (known_of w value))) (register_by o.code o.number o.kids) (value_of symbols other memory s' w)) (out-roll-Rtx _) ∙
      ap (of_two (λ reg value. Some (Sets reg (known_of w value))) (Some own)) (source took.value took.value_is)
