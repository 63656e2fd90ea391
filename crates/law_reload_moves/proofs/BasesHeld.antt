-- The register of the base of a result holds it still behind the instruction.
use Rattle.std.proofs.Common.{◌≡◌, ◌≢◌, ◌⊎◌, inl, inr, ℕ, ◌&&◌, ◌||◌, not, if◌then◌else◌, Bool, true, false, List, [], ◌∷◌, Option, Some, None, refl, sym, ap, subst, ◌∙◌}
use Rattle.std.proofs.lemmas.Bool.{and_parts}
use Rattle.std.specs.FinMap.{get}
use Rattle.std.specs.Option.{option_map_or}
use Rattle.std.specs.Prelude.{ℤ, slice_get}
use Rattle.law_operands_fetched.specs.bits64.declared.Width.TheVariants.{W64}
use Rattle.law_operands_fetched.specs.rtx_tree.declared.code.Mode.{Mode}
use Rattle.law_operands_fetched.specs.rtx_tree.declared.function.Kind.{Kind}
use Rattle.law_operands_fetched.specs.rtx_tree.declared.machine.SymbolAt.{SymbolAt}
use Rattle.law_operands_fetched.specs.rtx_tree.declared.memories.MemByte.{MemByte}
use Rattle.law_operands_fetched.specs.rtx_tree.declared.tree.Rtx.{Rtx}
use Rattle.law_operands_fetched.specs.rtl_step.Effect.{reg_after, regs_after}
use Rattle.law_operands_fetched.specs.rtl_step.Regs.{Regs, known_of}
use Rattle.law_operands_fetched.specs.rtl_step.declared.effect.Effect.{Effect}
use Rattle.law_operands_fetched.specs.md_match.Pattern.{Ops}
use Rattle.law_operands_fetched.specs.assign.declared.home.HomeOf.{HomeOf}
use Rattle.law_operands_fetched.specs.assign.declared.places.Layout.{Layout}
use Rattle.law_operands_fetched.specs.reload_homes.Homes.{homed}
use Rattle.law_operands_fetched.specs.reload_operands.declared.operand.Base.{Base}
use Rattle.law_operands_fetched.specs.reload_operands.declared.operand.Operand.{Operand}
use Rattle.law_operands_fetched.specs.reload_moves.Moves.{own_of, base_of}
use Rattle.law_operands_fetched.specs.reload_moves.Registers.{is_result, holds_base, base_ask, register_for}
use Rattle.law_operands_fetched.specs.reload_moves.declared.part.Part.{Part}
use Rattle.law_operands_fetched.proofs.reload_moves.AskLaws.{base_asked}
use Rattle.law_operands_fetched.specs.reload_choice.Sound.{IsPart}
use Rattle.law_operands_fetched.specs.reload_choice.declared.given.Plan.{Plan}
use Rattle.law_operands_fetched.specs.law_operands_replaced.Spare.{is_spare}
use Rattle.law_reload_moves.proofs.Chosen.{given, asks}
use Rattle.law_operands_fetched.proofs.Contents.{Contents, slot_of}
use Rattle.law_operands_fetched.proofs.law_operands_replaced.Ends.{IsOnRest, rest_alone}
use Rattle.law_operands_fetched.proofs.Fetching.{Fetching, spare_of}
use Rattle.law_reload_moves.proofs.GivenNews.{own, mode, tree, Free, IsResultAt, no_base, operand_of}
use Rattle.law_operands_fetched.proofs.law_operands_replaced.Keyed.{Keyed}
use Rattle.law_operands_fetched.proofs.law_operands_replaced.Keying.{with_keys, OneKeyed, still, held, lost, AllKeyed, no_more, one_more, AreOnRest, AreResults}
use Rattle.law_reload_moves.proofs.PlainAround.{AreKeys}
use Rattle.law_reload_moves.proofs.PlainInner.{before, other}
use Rattle.law_operands_fetched.proofs.law_operands_replaced.Registers.{set_other, unset_other}
use Rattle.law_reload_moves.proofs.TakenThere.{IsAt}

module _ (symbols : List SymbolAt) (regs other : Regs) (memory : List MemByte) (own : ℕ → ℕ) (mode : ℕ → Mode) (tree : ℕ → Rtx) (Free : ℕ → Type 0)
    (q : ℕ) (spare : is_spare q ≡ true) (free_apart : (r : ℕ) → Free r → r ≢ q) (IsResult : ℕ → Type 0) (own_apart : (j : ℕ) → IsResult j → own j ≢ q) where
  one_kept : (key : Option ℕ) (e d : Effect) (r : Regs) → OneKeyed symbols regs other memory own mode tree Free key e d →
      ((j : ℕ) → key ≡ Some j → IsResult j) → IsOnRest e → get (reg_after d r) q ≡ get r q
  one_kept _ e _ r (still _) results on = rest_alone q e r spare on
  one_kept _ e _ r (held j _ w v is _ wide) results on = set_other r (own j) (known_of w v) q (λ same. own_apart j (results j refl) (sym same))
  one_kept _ e _ r (lost _ x left _ free) results on = unset_other r x q (λ same. free_apart x free (sym same))

  -- one of t3 to t6 that is none of a result, and that no clobber unsets, is kept
  pub all_kept : (xs : List Keyed) (ds : List Effect) (r : Regs) → AllKeyed symbols regs other memory own mode tree Free xs ds →
      AreOnRest symbols regs other memory own mode tree Free xs → AreResults symbols regs other memory own mode tree Free IsResult xs → get (regs_after ds r) q ≡ get r q
  all_kept _ _ r no_more on results = refl
  all_kept _ _ r (one_more x d xs ds one more) on results =
      all_kept xs ds (reg_after d r) more on.1 results.1 ∙ one_kept x.key x.effect d r one results.0 on.0

-- a result with a base has a register for it
result_base : (base moved output : Bool) → base ≡ true → (moved && output) ≡ true → (base && (not moved || output)) ≡ true
result_base true true true has is = refl
result_base true true false has is = absurd (let no : ⊥ = cc in no)
result_base true false output has is = absurd (let no : ⊥ = cc in no)
result_base false moved output has is = absurd (let no : ⊥ = cc in no)

module _ (homes : List HomeOf) (layout : Layout) (kind : Kind) (w pattern : Rtx) (found : Ops) (plan : Plan)
    (symbols : List SymbolAt) (regs : Regs) (m : List MemByte) (sp : ℕ)
    (f : Fetching symbols regs m sp (given homes layout kind w pattern found plan) plan)
    (at : IsAt homes layout found pattern w (homed homes layout w)) where
  abbrev other_regs : Regs
  other_regs = other homes layout kind w pattern found plan symbols regs m sp f at

  abbrev All : List Keyed → List Effect → Type 0
  All = AllKeyed symbols regs other_regs m (own homes layout kind w pattern found plan) (mode homes layout kind w pattern found plan)
      (tree homes layout kind w pattern found plan) (Free homes layout kind w pattern found plan)

  abbrev OnRest : List Keyed → Type 0
  OnRest = AreOnRest symbols regs other_regs m (own homes layout kind w pattern found plan) (mode homes layout kind w pattern found plan)
      (tree homes layout kind w pattern found plan) (Free homes layout kind w pattern found plan)

  abbrev Results : List Keyed → Type 0
  Results = AreResults symbols regs other_regs m (own homes layout kind w pattern found plan) (mode homes layout kind w pattern found plan)
      (tree homes layout kind w pattern found plan) (Free homes layout kind w pattern found plan) (IsResultAt plan)

  results : (keys : List (Option ℕ)) (es : List Effect) → AreKeys plan keys → Results (with_keys keys es)
  results [] es are = tt
  results (key ∷ keys) [] are = tt
  results (key ∷ keys) (e ∷ es) are = (are.0, results keys es are.1)

  pub has_register : (p : Part) → is_result p ≡ true → p.needs.has_base ≡ true → holds_base p ≡ true
  has_register p result has = result_base p.needs.has_base p.is_moved p.needs.is_output has result

  base_is : (p : Part) → holds_base p ≡ true →
      base_of (asks homes layout kind w pattern found plan) p ≡ register_for (asks homes layout kind w pattern found plan) (base_ask p)
  base_is p holds = ap (λ b. if b then register_for (asks homes layout kind w pattern found plan) (base_ask p) else
      own_of (asks homes layout kind w pattern found plan) p) holds

  pub base_spare : (i : ℕ) (p : Part) → slice_get plan.parts i ≡ Some p → is_result p ≡ true → p.needs.has_base ≡ true →
      is_spare (base_of (asks homes layout kind w pattern found plan) p) ≡ true
  base_spare i p stands result has =
      let holds = has_register p result has in
      ap is_spare (base_is p holds) ∙ spare_of symbols regs m sp (given homes layout kind w pattern found plan) plan f.sound (base_ask p) (base_asked plan.parts i p stands holds)

  -- it is there still
  pub base_held : (keys : List (Option ℕ)) (es ds : List Effect) → AreKeys plan keys → All (with_keys keys es) ds → OnRest (with_keys keys es) →
      (i : ℕ) (p : Part) (x : Operand) (b : Base) (v : ℕ) → IsPart (given homes layout kind w pattern found plan) plan i p x → is_result p ≡ true → x.base ≡ Some b →
      p.needs.has_base ≡ true → slot_of symbols regs m sp (given homes layout kind w pattern found plan) plan b ≡ Some v →
      get (regs_after ds other_regs) (base_of (asks homes layout kind w pattern found plan) p) ≡ Some (known_of W64 v)
  base_held keys es ds are all on i p x b v part result based has there =
      let holds = has_register p result has in
      let q = base_of (asks homes layout kind w pattern found plan) p in
      all_kept symbols regs other_regs m (own homes layout kind w pattern found plan) (mode homes layout kind w pattern found plan)
      (tree homes layout kind w pattern found plan) (Free homes layout kind w pattern found plan) q (base_spare i p part.stands result has)
      (λ r free same. free.1 i p part.stands holds (same ∙ base_is p holds)) (IsResultAt plan) own_apart (with_keys keys es) ds other_regs all on (results keys es are) ∙
      b'.base i p x b v part holds based there
    where
      b' : Contents symbols regs m sp (given homes layout kind w pattern found plan) plan other_regs
      b' = let k = before homes layout kind w pattern found plan symbols regs m sp f at in k.contents k.fetched.after k.fetched.holds

      own_apart : (j : ℕ) → IsResultAt plan j → own homes layout kind w pattern found plan j ≢ base_of (asks homes layout kind w pattern found plan) p
      own_apart j r same =
          let holds = has_register p result has in
          let o = operand_of homes layout kind w pattern found plan f.sound j r.p r.stands in
          no_base homes layout kind w pattern found plan f.sound j r.p o.x (record { stands = r.stands; of = o.of }) (and_parts r.p.is_moved r.p.needs.is_output r.is).0
          i p part.stands holds
          (sym (ap (λ o. option_map_or (own_of (asks homes layout kind w pattern found plan)) o 0) r.stands) ∙ same ∙ base_is p holds)
