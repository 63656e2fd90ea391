-- Of the effects of an instruction one that ends in other memory and is moved is the only such of its instruction, but for those of the same operand.
use Rattle.std.proofs.Common.{◌≡◌, ◌≢◌, ◌⊎◌, inl, inr, ℕ, ◌+◌, ◌&&◌, ◌||◌, not, Bool, true, false, List, [], ◌∷◌, map, Option, Some, None, refl, sym, ap, subst, ◌∙◌}
use Rattle.std.proofs.lemmas.Bool.{and_parts}
use Rattle.std.specs.Prelude.{ℤ, pos, slice_get, drop}
use Rattle.std.specs.Option.{option_map_or}
use Rattle.law_operands_fetched.specs.bits64.declared.Width.TheVariants.{W64}
use Rattle.law_operands_fetched.specs.rtx_tree.Tree.{RtxHead, head_of, kids_of}
use Rattle.law_operands_fetched.specs.rtx_tree.declared.code.Code.TheVariants as code
use Rattle.law_operands_fetched.specs.rtx_tree.declared.function.Kind.{Kind}
use Rattle.law_operands_fetched.specs.rtx_tree.declared.machine.SymbolAt.{SymbolAt}
use Rattle.law_operands_fetched.specs.rtx_tree.declared.memories.MemByte.{MemByte}
use Rattle.law_operands_fetched.specs.rtx_tree.declared.tree.Rtx.{Rtx}
use Rattle.law_operands_fetched.proofs.rtx_tree.Trees.{head_of-tree}
use Rattle.law_operands_fetched.proofs.rtl_func.AllPass.{all_pass}
use Rattle.law_operands_fetched.proofs.run_memory.Laws.{Apart}
use Rattle.law_operands_fetched.specs.rtl_step.Regs.{Regs}
use Rattle.law_operands_fetched.specs.rtl_step.Value.{value_of}
use Rattle.law_operands_fetched.specs.rtl_step.declared.effect.Effect.{Effect}
use Rattle.law_operands_fetched.specs.md_constr.Inputs as inputs
use Rattle.law_operands_fetched.specs.md_match.Pattern.{Ops}
use Rattle.law_operands_fetched.specs.assign.declared.home.Home.TheVariants.{Slot}
use Rattle.law_operands_fetched.specs.assign.declared.home.HomeOf.{HomeOf}
use Rattle.law_operands_fetched.specs.assign.declared.places.Layout.{Layout}
use Rattle.law_operands_fetched.specs.reload_homes.Homes.{home_of, slot_offset, slot_address, register_numbered, register_by, register_at, homed}
use Rattle.law_operands_fetched.proofs.reload_homes.Rewrites.{homed_over}
use Rattle.law_operands_fetched.specs.reload_operands.Bases.{lives_in_slot, in_slot}
use Rattle.law_operands_fetched.specs.reload_operands.Changes.{other_memory, any_other_memory, is_other_memory}
use Rattle.law_operands_fetched.specs.reload_operands.declared.operand.Operand.{Operand}
use Rattle.law_operands_fetched.specs.reload_choice.reload_fit.Fitting.{is_memory_code}
use Rattle.law_operands_fetched.specs.reload_choice.Movable.{may_land}
use Rattle.law_operands_fetched.specs.reload_choice.Sound.{IsSoundPlan}
use Rattle.law_operands_fetched.specs.reload_choice.declared.given.Plan.{Plan}
use Rattle.law_reload_moves.proofs.AllOrderly.{AllSole}
use Rattle.law_reload_moves.proofs.Chosen.{given, untrue}
use Rattle.law_reload_moves.proofs.InputPlaces.{no_operator_of}
use Rattle.law_reload_moves.proofs.NewsLaws.{operand_of_match}
use Rattle.law_reload_moves.proofs.Orderly.{SetsMemory}
use Rattle.law_reload_moves.proofs.ResultRows.{Key, Row, Rows, none, more, keyed_row}
use Rattle.law_reload_moves.proofs.SoleRows.{sole_rows, none_other, pair_is}

-- where one lands in memory that is no slot, no other memory is changed, and no register of its address
pub landed : (slot memory other address : Bool) → (slot || (not memory || (not other && not address))) ≡ true → slot ≡ false → memory ≡ true →
    (other ≡ false) × (address ≡ false)
landed true memory other address is no_slot has = absurd (let no : ⊥ = cc in no)
landed false false other address is no_slot has = absurd (let no : ⊥ = cc in no)
landed false true true address is no_slot has = absurd (let no : ⊥ = cc in no)
landed false true false true is no_slot has = absurd (let no : ⊥ = cc in no)
landed false true false false is no_slot has = (refl, refl)

pub record MayEndHere (twice_before twice_after clobbered land : Bool) : Type 0 where
  pub before : twice_before ≡ false
  pub after : twice_after ≡ false
  pub kept : clobbered ≡ false
  pub lands : land ≡ true

pub end_parts : (plain twice_before twice_after clobbered land : Bool) → (plain && (not twice_before && not twice_after)) && (not clobbered && land) ≡ true →
    MayEndHere twice_before twice_after clobbered land
end_parts plain before after clobbered land is =
    let both = and_parts (plain && (not before && not after)) (not clobbered && land) is in
    let first = and_parts plain (not before && not after) both.0 in
    let twice = and_parts (not before) (not after) first.1 in
    let second = and_parts (not clobbered) land both.1 in
    record { before = untrue before twice.0; after = untrue after twice.1; kept = untrue clobbered second.0; lands = second.1 }

memory_none : (t : Rtx) → (head_of t).code ≡ code.Mem → register_at t ≡ None
memory_none t is = ap (λ c. register_by c t (kids_of t)) is ∙ ap (λ c. register_numbered c (head_of t).number) is

module _ (homes : List HomeOf) (layout : Layout) (kind : Kind) (w pattern : Rtx) (found : Ops) (plan : Plan)
    (sound : IsSoundPlan (given homes layout kind w pattern found plan) plan) (symbols : List SymbolAt) (regs : Regs) (m : List MemByte) (sp : ℕ)
    (slot_is : (reg : ℕ) → home_of homes reg ≡ Slot → value_of symbols regs m (slot_address layout reg) W64 ≡ Some (sp + slot_offset layout reg))
    (slots_apart : (a b : ℕ) → a ≢ b → home_of homes a ≡ Slot → home_of homes b ≡ Slot → Apart (sp + slot_offset layout a) 8 (sp + slot_offset layout b) 8)
    (operators : (j : ℕ) (x : Operand) → slice_get (given homes layout kind w pattern found plan).operands j ≡ Some x → x.is_operator ≡ false →
    all_pass (no_operator_of x.number) pattern ≡ true) where
  abbrev hm : Rtx → Rtx
  hm = homed homes layout

  abbrev RowOf : Rtx → Rtx → Effect → Type 0
  RowOf = Row homes layout kind w pattern found plan sound symbols regs m

  abbrev RowsOf : List Rtx → List Rtx → List Effect → Type 0
  RowsOf = Rows homes layout kind w pattern found plan sound symbols regs m

  abbrev KeyOf : Rtx → Option ℕ
  KeyOf = Key homes layout kind w pattern found plan sound symbols regs m

  abbrev Soles : List Rtx → List Rtx → Type 0
  Soles = AllSole homes layout kind w pattern found plan sound symbols regs m sp slot_is slots_apart

  -- one that has a key may end where it does
  pub ends_there : (q v : Rtx) (e : Effect) (k : ℕ) → (row : RowOf q v e) → (key : KeyOf q ≡ Some k) →
      let r = keyed_row homes layout kind w pattern found plan sound symbols regs m q v e k row key in
      let g = given homes layout kind w pattern found plan in
      MayEndHere g.whole.twice_before g.whole.twice_after r.x.is_clobbered (may_land r.x)
  ends_there q v e k row key =
      let r = keyed_row homes layout kind w pattern found plan sound symbols regs m q v e k row key in
      let g = given homes layout kind w pattern found plan in
      end_parts _ g.whole.twice_before g.whole.twice_after r.x.is_clobbered (may_land r.x) (sound.results k r.p r.x r.part r.result)

  not_elsewhere : (q v : Rtx) (e : Effect) (k : ℕ) → (row : RowOf q v e) → (key : KeyOf q ≡ Some k) → SetsMemory v →
      other_memory pattern w (keyed_row homes layout kind w pattern found plan sound symbols regs m q v e k row key).x.number ≡ false
  not_elsewhere q v e k row key s =
      let r = keyed_row homes layout kind w pattern found plan sound symbols regs m q v e k row key in
      let o = operand_of_match pattern found w (hm w) homes layout r.p.place r.x r.part.of in
      let same : r.t ≡ s.target = pair_is r.t r.s s.target s.source (sym r.are ∙ s.are) in
      let memory : (head_of r.t).code ≡ code.Mem = ap (λ (x : Rtx). (head_of x).code) same ∙ s.memory in
      let none = memory_none r.t memory in
      let was : o.was ≡ r.t = (let both : Some o.was ≡ Some r.t = sym o.found_is ∙ r.found_is in cc) in
      let no_slot : r.x.in_slot ≡ false = ap (λ (x : Operand). x.in_slot) o.operand_is ∙ ap (in_slot homes) was ∙
      ap (λ o. option_map_or (lives_in_slot homes) o false) none in
      let there : (head_of r.x.tree).code ≡ code.Mem = ap (λ (x : Rtx). (head_of x).code) (r.tree_is ∙ homed_over homes layout r.t none) ∙
      ap (λ (h : RtxHead). h.code) (head_of-tree (head_of r.t) (map hm (kids_of r.t))) ∙ memory in
      let other_is : r.x.other_memory ≡ other_memory pattern w r.x.number = ap (λ (x : Operand). x.other_memory) o.operand_is in
      sym other_is ∙ (landed r.x.in_slot (is_memory_code (head_of r.x.tree).code) r.x.other_memory r.x.changed_address
      (ends_there q v e k row key).lands no_slot (ap is_memory_code there)).0

  -- so each stands alone
  pub all_soles : (qs vs : List Rtx) (es : List Effect) → RowsOf qs vs es → ((n : ℕ) → other_memory pattern w n ≡ false → any_other_memory n qs vs ≡ false) → Soles qs vs
  all_soles _ _ _ none other = tt
  all_soles _ _ _ (more q v e qs vs es row rows) other = (
    (λ k key.
        let r = keyed_row homes layout kind w pattern found plan sound symbols regs m q v e k row key in
        sole_rows homes layout kind w pattern found plan sound symbols regs m sp slot_is slots_apart operators v r.x.number k qs vs es rows
        (λ s. (none_other (is_other_memory r.x.number (Some q) v) (any_other_memory r.x.number qs vs) (other r.x.number (not_elsewhere q v e k row key s))).1)
        (operators r.p.place r.x r.part.of (sound.operator k r.p r.x r.part (and_parts r.p.is_moved r.p.needs.is_output r.result).0))
        r.at),
    all_soles qs vs es rows (λ n is. (none_other (is_other_memory n (Some q) v) (any_other_memory n qs vs) (other n is)).1),
  )
