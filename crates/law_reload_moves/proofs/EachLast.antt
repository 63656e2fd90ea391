-- Each result that is moved has an effect of its instruction that is its last.
use Rattle.std.proofs.Common.{◌≡◌, ◌≢◌, ◌⊎◌, inl, inr, ℕ, Bool, true, false, List, [], ◌∷◌, map, Option, Some, None, refl, sym, ap, subst, ◌∙◌}
use Rattle.std.proofs.lemmas.Bool.{and_parts}
use Rattle.std.specs.List.{flat_map, list_any}
use Rattle.std.specs.Prelude.{ℤ, pos, slice_get}
use Rattle.law_operands_fetched.specs.rtx_tree.Tree.{RtxHead, head_of, kids_of}
use Rattle.law_operands_fetched.specs.rtx_tree.declared.function.Kind.{Kind}
use Rattle.law_operands_fetched.specs.rtx_tree.declared.machine.SymbolAt.{SymbolAt}
use Rattle.law_operands_fetched.specs.rtx_tree.declared.memories.MemByte.{MemByte}
use Rattle.law_operands_fetched.specs.rtx_tree.declared.tree.Rtx.{Rtx}
use Rattle.law_operands_fetched.specs.rtl_func.Shapes.{is_effect, is_shaped}
use Rattle.law_operands_fetched.proofs.rtl_func.AllPass.{all_pass}
use Rattle.law_operands_fetched.specs.rtl_step.Effect.{effects_of}
use Rattle.law_operands_fetched.specs.rtl_step.Regs.{Regs}
use Rattle.law_operands_fetched.specs.rtl_step.declared.effect.Effect.{Effect}
use Rattle.law_operands_fetched.specs.sym_insns.Shape.{all_natural}
use Rattle.law_operands_fetched.specs.md_constr.Inputs as inputs
use Rattle.law_operands_fetched.specs.md_constr.Inputs.{set_by, outputs_in}
use Rattle.law_operands_fetched.specs.md_match.Pattern.{Ops, role_of, instantiated}
use Rattle.law_operands_fetched.specs.md_match.declared.role.Role.{Role}
use Rattle.law_operands_fetched.specs.md_match.declared.role.Role.TheVariants.{Operand, Operator, Itself}
use Rattle.law_operands_fetched.specs.assign.declared.home.HomeOf.{HomeOf}
use Rattle.law_operands_fetched.specs.assign.declared.places.Layout.{Layout}
use Rattle.law_operands_fetched.specs.reload_homes.Homes.{homed}
use Rattle.law_operands_fetched.proofs.reload_operands.NumberLaws.{has_in_each}
use Rattle.law_operands_fetched.specs.reload_operands.Directions.{has_number}
use Rattle.law_operands_fetched.specs.reload_operands.Put.{any_inside, inside_low}
use Rattle.law_operands_fetched.specs.reload_operands.declared.operand.Operand.{Operand as OperandOf}
use Rattle.law_operands_fetched.specs.reload_moves.Registers.{is_result}
use Rattle.law_operands_fetched.specs.reload_moves.declared.part.Part.{Part}
use Rattle.law_operands_fetched.specs.reload_choice.Sound.{IsPart, IsSoundPlan}
use Rattle.law_operands_fetched.specs.reload_choice.declared.given.Plan.{Plan}
use Rattle.law_reload_moves.proofs.Chosen.{given, asks, known_of}
use Rattle.law_reload_moves.proofs.GivenNews.{result_at, operand_of}
use Rattle.law_reload_moves.proofs.InputPlaces.{no_operator_of}
use Rattle.law_operands_fetched.proofs.law_operands_replaced.Keying.{with_keys}
use Rattle.law_reload_moves.proofs.ResultNumbers.{one_number, found_in}
use Rattle.law_reload_moves.proofs.ResultRows.{Key}
use Rattle.law_reload_moves.proofs.ResultsHeld.{IsLast}
use Rattle.law_reload_moves.proofs.ResultsLast.{no_outputs, last_found, clear_effects}
use Rattle.law_reload_moves.proofs.RowsThere.{made_over, all_rows}

module _ (homes : List HomeOf) (layout : Layout) (kind : Kind) (w pattern : Rtx) (found : Ops) (plan : Plan)
    (sound : IsSoundPlan (given homes layout kind w pattern found plan) plan) (symbols : List SymbolAt) (regs : Regs) (m : List MemByte)
    (operators : (j : ℕ) (x : OperandOf) → slice_get (given homes layout kind w pattern found plan).operands j ≡ Some x → x.is_operator ≡ false →
    all_pass (no_operator_of x.number) pattern ≡ true)
    (made : instantiated pattern found ≡ Some w) (effect : is_effect w ≡ true) (shaped : all_pass is_shaped w ≡ true) (natural : all_natural w ≡ true)
    (es : List Effect) (does : effects_of symbols regs m (homed homes layout w) ≡ Some es) where
  abbrev KeyOf : Rtx → Option ℕ
  KeyOf = Key homes layout kind w pattern found plan sound symbols regs m

  -- an output is set by an effect
  set_there : (i : ℕ) (p : Part) (x : OperandOf) → IsPart (given homes layout kind w pattern found plan) plan i p x → is_result p ≡ true →
      has_number x.number (outputs_in pattern) ≡ true
  set_there i p x part is =
      sym (known_of homes layout kind w pattern found plan p.place x part.of).output ∙ sym (sound.says i p x part).output ∙
      (and_parts p.is_moved p.needs.is_output is).1

  -- what is moved for its number is its part
  here_at : (i : ℕ) (p : Part) (x : OperandOf) → IsPart (given homes layout kind w pattern found plan) plan i p x → p.is_moved ≡ true →
      result_at homes layout kind w pattern found plan (pos x.number) ≡ Some p.place
  here_at i p x part moved =
      let operands = (given homes layout kind w pattern found plan).operands in
      found_in (asks homes layout kind w pattern found plan) operands x.number plan.parts None i p x part.stands part.of refl moved
      (λ j q y at of number.
      let places = one_number pattern found w (homed homes layout w) homes layout q.place p.place y x of part.of number in
      sym (sound.in_order j q at) ∙ places ∙ sound.in_order i p part.stands)

  itself_last : role_of (head_of pattern).code ≡ Itself → (i : ℕ) (p : Part) (x : OperandOf) → IsPart (given homes layout kind w pattern found plan) plan i p x → is_result p ≡ true →
      IsLast (with_keys (map KeyOf (inputs.effects_of pattern)) es) p.place
  itself_last role i p x part is =
      let r = all_rows homes layout kind w pattern found plan sound symbols regs m es role made effect shaped natural does in
      let moved = (and_parts p.is_moved p.needs.is_output is).0 in
      let o = made_over pattern w found role made in
      let code_is : (head_of w).code ≡ (head_of pattern).code = ap (λ (h : RtxHead). h.code) o.1.1.0 in
      let low = sym (known_of homes layout kind w pattern found plan p.place x part.of).lowpart ∙ sound.moved_clear i p x part moved in
      last_found homes layout kind w pattern found plan sound symbols regs m x.number p.place
      (operators p.place x part.of (sound.operator i p x part moved)) (here_at i p x part moved)
      (inputs.effects_of pattern) (inputs.effects_of w) es r.rows
      (ap (λ c. any_inside (map (inside_low x.number) (inputs.effects_of pattern)) false (inputs.effects_by c w (kids_of w))) code_is ∙
      clear_effects homes layout kind w pattern found plan sound symbols regs m x.number (head_of pattern).code refl role code_is low)
      (sym (has_in_each x.number set_by (inputs.effects_of pattern)) ∙ set_there i p x part is)

  -- each result has its last effect
  pub each_last : (keys : List (Option ℕ)) → (role_of (head_of pattern).code ≡ Itself → keys ≡ map KeyOf (inputs.effects_of pattern)) →
      (i : ℕ) (p : Part) → slice_get plan.parts i ≡ Some p → is_result p ≡ true → IsLast (with_keys keys es) p.place
  each_last keys itself i p stands is = by (role_of (head_of pattern).code) refl
    where
      o : (x : OperandOf) × IsPart (given homes layout kind w pattern found plan) plan i p x
      o = let o = operand_of homes layout kind w pattern found plan sound i p stands in (o.x, record { stands = stands; of = o.of })

      placed : role_of (head_of pattern).code ≢ Itself → IsLast (with_keys keys es) p.place
      placed other =
          let e : true ≡ false = sym (set_there i p o.0 o.1 is) ∙ no_outputs (head_of pattern).code pattern o.0.number refl other in absurd (let no : ⊥ = cc in no)

      by : (r : Role) → role_of (head_of pattern).code ≡ r → IsLast (with_keys keys es) p.place
      by Itself role = subst (λ keys. IsLast (with_keys keys es) p.place) (sym (itself role)) (itself_last role i p o.0 o.1 is)
      by Operand role = placed (λ same. let e : Operand ≡ Itself = sym role ∙ same in let no : ⊥ = cc in no)
      by Operator role = placed (λ same. let e : Operator ≡ Itself = sym role ∙ same in let no : ⊥ = cc in no)
