-- Results that are moved end behind a plain instruction for which a plan is chosen.
use Rattle.std.proofs.Common.{◌≡◌, ◌≢◌, ◌⊎◌, inl, inr, ℕ, ◌+◌, if◌then◌else◌, Bool, true, false, List, [], ◌∷◌, ◌++◌, map, Option, Some, None, refl, sym, ap, subst, ◌∙◌}
use Rattle.std.proofs.lemmas.Bool.{and_parts}
use Rattle.std.specs.FinMap.{get}
use Rattle.std.specs.Prelude.{ℤ, slice_get}
use Rattle.law_operands_fetched.specs.bits64.declared.Width.TheVariants.{W64}
use Rattle.law_operands_fetched.specs.rtx_tree.Tree.{head_of}
use Rattle.law_operands_fetched.specs.rtx_tree.declared.function.Kind.{Kind}
use Rattle.law_operands_fetched.specs.rtx_tree.declared.function.Kind.TheVariants as kinds
use Rattle.law_operands_fetched.specs.rtx_tree.declared.machine.SymbolAt.{SymbolAt}
use Rattle.law_operands_fetched.specs.rtx_tree.declared.memories.MemByte.{MemByte}
use Rattle.law_operands_fetched.specs.rtx_tree.declared.tree.Rtx.{Rtx}
use Rattle.law_operands_fetched.proofs.run_memory.Laws.{Apart}
use Rattle.law_operands_fetched.specs.rtl_func.Shapes.{is_effect}
use Rattle.law_operands_fetched.proofs.rtl_func.AllPass.{all_pass}
use Rattle.law_operands_fetched.specs.rtl_step.Effect.{effects_of, regs_after, memory_after}
use Rattle.law_operands_fetched.specs.rtl_step.Regs.{Regs}
use Rattle.law_operands_fetched.specs.rtl_step.Value.{value_of}
use Rattle.law_operands_fetched.specs.rtl_step.declared.effect.Effect.{Effect}
use Rattle.law_operands_fetched.specs.sym_insns.Shape.{all_natural}
use Rattle.law_operands_fetched.specs.md_constr.Inputs as inputs
use Rattle.law_operands_fetched.specs.md_match.Pattern.{Ops, role_of}
use Rattle.law_operands_fetched.specs.md_match.declared.role.Role.{Role}
use Rattle.law_operands_fetched.specs.md_match.declared.role.Role.TheVariants.{Operand, Operator, Itself}
use Rattle.law_operands_fetched.specs.assign.declared.home.Home.TheVariants.{Slot}
use Rattle.law_operands_fetched.specs.assign.declared.home.HomeOf.{HomeOf}
use Rattle.law_operands_fetched.specs.assign.declared.places.Layout.{Layout}
use Rattle.law_operands_fetched.specs.reload_homes.Homes.{home_of, slot_offset, slot_address, homed}
use Rattle.law_operands_fetched.specs.reload_operands.declared.operand.Operand.{Operand as OperandOf}
use Rattle.law_operands_fetched.specs.reload_moves.Moves.{own_of}
use Rattle.law_operands_fetched.specs.reload_moves.Registers.{asks_of, is_result}
use Rattle.law_operands_fetched.specs.reload_moves.declared.ask.Ask.{Ask}
use Rattle.law_operands_fetched.specs.reload_moves.declared.part.Part.{Part}
use Rattle.law_operands_fetched.specs.reload_choice.declared.given.Plan.{Plan}
use Rattle.law_operands_fetched.specs.law_operands_replaced.Held.{Held, Holds}
use Rattle.law_operands_fetched.specs.law_operands_replaced.Spare.{KeepsRest, NamesNoSpare}
use Rattle.law_reload_moves.proofs.AllOrderly.{EachOutside}
use Rattle.law_reload_moves.proofs.Chosen.{given}
use Rattle.law_reload_moves.proofs.EachLast.{each_last}
use Rattle.law_operands_fetched.proofs.law_operands_replaced.Ends.{IsOnRest, AreSpare}
use Rattle.law_operands_fetched.proofs.Fetching.{Fetching}
use Rattle.law_reload_moves.proofs.GivenNews.{own, mode, tree, Free, result_at, own_is, own_spare, operand_of}
use Rattle.law_reload_moves.proofs.InputPlaces.{no_operator_of}
use Rattle.law_operands_fetched.proofs.law_operands_replaced.Keyed.{Keyed, effects_in, kept_of, last_of, AreOrderly}
use Rattle.law_operands_fetched.proofs.law_operands_replaced.Keying.{with_keys, AllKeyed, AreOnRest}
use Rattle.law_operands_fetched.proofs.law_operands_replaced.NewTrees.{is_whole}
use Rattle.law_reload_moves.proofs.OwnHeld as held
use Rattle.law_reload_moves.proofs.OwnHeld.{no_places, none_last, some_stay, own_held, own_holds}
use Rattle.law_reload_moves.proofs.PlainAround.{keyed, MayEnd, none_end}
use Rattle.law_reload_moves.proofs.PlainInner.{g, other, Effects, plain_keyed}
use Rattle.law_reload_moves.proofs.ResultKeys.{result_places, results_distinct}
use Rattle.law_reload_moves.proofs.ResultRows.{Key}
use Rattle.law_reload_moves.proofs.ResultsEnd.{Among, AllAmong, kept_among, last_among, kept_besides, EndsNear, EndsFar, results_end}
use Rattle.law_reload_moves.proofs.ResultsHeld.{IsLast, results_held}
use Rattle.law_reload_moves.proofs.ResultsOrderly.{placed_keys, results_orderly}
use Rattle.law_reload_moves.proofs.RowsThere.{AllRows, all_rows}
use Rattle.law_reload_moves.proofs.TakenThere.{IsAt}
use Rattle.law_operands_fetched.proofs.Through.{spare_both, holds_both, through, through_spare, through_holds}
use Rattle.law_operands_fetched.proofs.Window.{AllStay}
use Rattle.law_operands_fetched.proofs.law_operands_replaced.WholeTurns.{AllNone}

module _ (homes : List HomeOf) (layout : Layout) (kind : Kind) (w pattern : Rtx) (found : Ops) (plan : Plan)
    (symbols : List SymbolAt) (regs : Regs) (m : List MemByte) (sp : ℕ)
    (f : Fetching symbols regs m sp (given homes layout kind w pattern found plan) plan)
    (at : IsAt homes layout found pattern w (homed homes layout w))
    (plain : kind ≡ kinds.Plain) (natural : all_natural (homed homes layout w) ≡ true) (quiet : NamesNoSpare (homed homes layout w))
    (whole : all_pass is_whole (homed homes layout w) ≡ true)
    (Told : Regs → List MemByte → Type 0) (spared : (r r' : Regs) (m : List MemByte) → KeepsRest r r' → Told r m → Told r' m)
    (es : List Effect) (does : effects_of symbols regs m (homed homes layout w) ≡ Some es) where
  abbrev k' : Effects homes layout kind w pattern found plan symbols regs m sp f at es
  k' = plain_keyed homes layout kind w pattern found plan symbols regs m sp f at plain natural quiet whole es does

  -- the effects, each with the place of its result
  abbrev xs : List Keyed
  xs = with_keys k'.keys es

  abbrev Own : ℕ → ℕ
  Own = own homes layout kind w pattern found plan

  abbrev KeyOf : Rtx → Option ℕ
  KeyOf = Key homes layout kind w pattern found plan f.sound symbols regs m

  abbrev qs : List Rtx
  qs = inputs.effects_of pattern

  abbrev asks : List Ask
  asks = asks_of plan.parts

  abbrev r1 : Regs
  r1 = regs_after k'.keyed.effects (other homes layout kind w pattern found plan symbols regs m sp f at)

  abbrev Rest : List Keyed → Type 0
  Rest = AreOnRest symbols regs (other homes layout kind w pattern found plan symbols regs m sp f at) m Own (mode homes layout kind w pattern found plan)
      (tree homes layout kind w pattern found plan) (Free homes layout kind w pattern found plan)

  abbrev Becomes : List Keyed → List Effect → Type 0
  Becomes = AllKeyed symbols regs (other homes layout kind w pattern found plan symbols regs m sp f at) m Own (mode homes layout kind w pattern found plan)
      (tree homes layout kind w pattern found plan) (Free homes layout kind w pattern found plan)

  pub all_rest : (ys : List Keyed) → ((e : Effect) → Among e (effects_in ys) → IsOnRest e) → Rest ys
  all_rest [] on = tt
  all_rest (y ∷ ys) on = (on y.effect (inl refl), all_rest ys (λ e among. on e (inr among)))

  -- what registers hold for a result: its own, and others
  abbrev pub list : (Part → List Held) → Part → List Held
  list bases p = own_held (own_of asks p) (last_of xs p.place) ++ bases p

  abbrev pub hs : (Part → List Held) → List Held
  hs bases = through symbols (list bases) plan.parts

  module _ (slot_is : (reg : ℕ) → home_of homes reg ≡ Slot → value_of symbols regs m (slot_address layout reg) W64 ≡ Some (sp + slot_offset layout reg))
      (slots_apart : (a b : ℕ) → a ≢ b → home_of homes a ≡ Slot → home_of homes b ≡ Slot → Apart (sp + slot_offset layout a) 8 (sp + slot_offset layout b) 8)
      (operators : (j : ℕ) (x : OperandOf) → slice_get (given homes layout kind w pattern found plan).operands j ≡ Some x → x.is_operator ≡ false →
      all_pass (no_operator_of x.number) pattern ≡ true)
      (effect : is_effect w ≡ true) (natural_w : all_natural w ≡ true)
      (outside : EachOutside homes layout kind w pattern found plan f.sound symbols regs m sp slot_is slots_apart (inputs.effects_of w) es)
      (stay : AllStay symbols Told spared es) (on : (e : Effect) → Among e es → IsOnRest e)
      (bases : Part → List Held) (bases_spare : (i : ℕ) (p : Part) → slice_get plan.parts i ≡ Some p → is_result p ≡ true → AreSpare (bases p))
      (bases_hold : (i : ℕ) (p : Part) → slice_get plan.parts i ≡ Some p → is_result p ≡ true → Holds r1 (bases p))
      (ends : (i : ℕ) (p : Part) → slice_get plan.parts i ≡ Some p → is_result p ≡ true → (l : IsLast xs p.place) →
      EndsNear symbols Told spared (g homes layout kind w pattern found plan symbols regs m sp f at).operands asks xs regs m (hs bases) p l.effect ⊎
      EndsFar symbols Told spared (g homes layout kind w pattern found plan symbols regs m sp f at).operands asks xs regs m (hs bases) p l.effect) where
    lasts : (i : ℕ) (p : Part) → slice_get plan.parts i ≡ Some p → is_result p ≡ true → IsLast xs p.place
    lasts i p stands is = each_last homes layout kind w pattern found plan f.sound symbols regs m operators at.made effect at.shaped natural_w es does k'.keys k'.itself i p stands is

    -- where no effect is delayed there are no results
    none_moved : AllNone k'.keys → MayEnd homes layout kind w pattern found plan symbols regs m sp f at plain natural quiet whole Told spared es does
    none_moved none = none_end homes layout kind w pattern found plan symbols regs m sp f at plain natural quiet whole Told spared es does
        (no_places plan.parts (λ i p stands is. let l = lasts i p stands is in none_last k'.keys es p.place l.effect none l.is))
        (some_stay symbols Told spared (kept_of xs) es (subst (AllAmong (kept_of xs)) k'.keyed.same (kept_among xs)) stay)

    kept_stay : AllStay symbols Told spared (kept_of xs)
    kept_stay = some_stay symbols Told spared (kept_of xs) es (subst (AllAmong (kept_of xs)) k'.keyed.same (kept_among xs)) stay

    orderly : (k'.keys ≡ map KeyOf qs) ⊎ AllNone k'.keys → AreOrderly (result_places plan.parts) xs
    orderly which = results_orderly homes layout kind w pattern found plan f.sound symbols regs m sp slot_is slots_apart operators at.made effect at.shaped natural_w es does outside
        k'.keys which

    module _ (same : k'.keys ≡ map KeyOf qs) (rows : AllRows homes layout kind w pattern found plan f.sound symbols regs m es) where
      same_keyed : xs ≡ with_keys (map KeyOf qs) es
      same_keyed = ap (λ keys. with_keys keys es) same

      own_held_here : (i : ℕ) (p : Part) → slice_get plan.parts i ≡ Some p → is_result p ≡ true → Holds r1 (own_held (own_of asks p) (last_of xs p.place))
      own_held_here i p stands is =
          let l = lasts i p stands is in
          let l' : IsLast (with_keys (map KeyOf qs) es) p.place = record { effect = l.effect; is = ap (λ xs. last_of xs p.place) (sym same_keyed) ∙ l.is } in
          let h = results_held homes layout kind w pattern found plan f.sound symbols regs
          (other homes layout kind w pattern found plan symbols regs m sp f at) m (result_places plan.parts) qs (inputs.effects_of w) es rows.rows
          (subst (AreOrderly (result_places plan.parts)) same_keyed (orderly (inl same))) k'.keyed.effects
          (subst (λ xs. Becomes xs k'.keyed.effects) same_keyed k'.keyed.keyed)
          (subst Rest same_keyed (all_rest xs (λ e among. on e (subst (Among e) k'.keyed.same among)))) p.place l' in
          let o = operand_of homes layout kind w pattern found plan f.sound i p stands in
          let here : Own p.place ≡ own_of asks p = own_is homes layout kind w pattern found plan f.sound i p o.x (record { stands = stands; of = o.of }) in
          subst (λ o. Holds r1 (own_held (own_of asks p) o)) (sym l.is)
          (own_holds symbols regs (other homes layout kind w pattern found plan symbols regs m sp f at) m (own_of asks p) h.width h.value l.effect r1 h.sets
          (ap (get r1) (sym here) ∙ h.holds (other homes layout kind w pattern found plan symbols regs m sp f at)))

      moved_end : MayEnd homes layout kind w pattern found plan symbols regs m sp f at plain natural quiet whole Told spared es does
      moved_end = record {
        orderly = orderly (inl same);
        stay = kept_stay;
        through = hs bases;
        spare = through_spare symbols (list bases) plan.parts (λ i p stands is. spare_both (own_held (own_of asks p) (last_of xs p.place)) (bases p)
            (held.own_spare (own_of asks p) (last_of xs p.place)
            (own_spare homes layout kind w pattern found plan f.sound i p stands (and_parts p.is_moved p.needs.is_output is).0)) (bases_spare i p stands is));
        holds = through_holds symbols (list bases) r1 plan.parts (λ i p stands is. holds_both r1 (own_held (own_of asks p) (last_of xs p.place)) (bases p)
            (own_held_here i p stands is) (bases_hold i p stands is));
        ends_are = results_end symbols Told spared (g homes layout kind w pattern found plan symbols regs m sp f at).operands asks xs regs m (hs bases) plan.parts
            (λ i p stands is. let l = lasts i p stands is in record {
              effect = l.effect;
              last = l.is;
              rest = on l.effect (subst (Among l.effect) k'.keyed.same (last_among xs p.place l.effect l.is));
              code = ends i p stands is l;
            }) (results_distinct plan.parts f.sound.in_order) (regs_after (kept_of xs) regs) (memory_after (kept_of xs) m)
            (record { made = kept_of xs; besides_each = λ j inside. kept_besides j xs; regs_are = refl; memory_is = refl });
      }

    -- they end
    pub results_may_end : MayEnd homes layout kind w pattern found plan symbols regs m sp f at plain natural quiet whole Told spared es does
    results_may_end = by k'.which (role_of (head_of pattern).code) refl
      where
        placed : (k'.keys ≡ map KeyOf qs) → role_of (head_of pattern).code ≢ Itself → AllNone k'.keys
        placed same other' = subst AllNone (sym same) (placed_keys (result_at homes layout kind w pattern found plan) (head_of pattern).code pattern refl other')

        by : (k'.keys ≡ map KeyOf qs) ⊎ AllNone k'.keys → (r : Role) → role_of (head_of pattern).code ≡ r →
            MayEnd homes layout kind w pattern found plan symbols regs m sp f at plain natural quiet whole Told spared es does
        by (inr none) r is = none_moved none
        by (inl same) Itself is = moved_end same
            (all_rows homes layout kind w pattern found plan f.sound symbols regs m es is at.made effect at.shaped natural_w does)
        by (inl same) Operand is = none_moved (placed same (λ e. let no' : Operand ≡ Itself = sym is ∙ e in let no : ⊥ = cc in no))
        by (inl same) Operator is = none_moved (placed same (λ e. let no' : Operator ≡ Itself = sym is ∙ e in let no : ⊥ = cc in no))
