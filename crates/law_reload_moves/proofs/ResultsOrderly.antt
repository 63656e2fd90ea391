-- The effects of a plain instruction for which a plan is chosen: results that are moved may be delayed behind the others.
use Rattle.std.proofs.Common.{◌≡◌, ◌≢◌, ◌⊎◌, inl, inr, ℕ, ◌+◌, not, Bool, true, false, List, [], ◌∷◌, map, Option, Some, None, refl, sym, ap, subst, ◌∙◌}
use Rattle.std.specs.Prelude.{ℤ, slice_get}
use Rattle.law_operands_fetched.specs.bits64.declared.Width.TheVariants.{W64}
use Rattle.law_operands_fetched.specs.rtx_tree.Tree.{head_of, kids_of}
use Rattle.law_operands_fetched.specs.rtx_tree.declared.code.Code.{Code}
use Rattle.law_operands_fetched.specs.rtx_tree.declared.code.Code.TheVariants as code
use Rattle.law_operands_fetched.specs.rtx_tree.declared.function.Kind.{Kind}
use Rattle.law_operands_fetched.specs.rtx_tree.declared.machine.SymbolAt.{SymbolAt}
use Rattle.law_operands_fetched.specs.rtx_tree.declared.memories.MemByte.{MemByte}
use Rattle.law_operands_fetched.specs.rtx_tree.declared.tree.Rtx.{Rtx}
use Rattle.law_operands_fetched.proofs.run_memory.Laws.{Apart}
use Rattle.law_operands_fetched.specs.rtl_func.Effects.{parallels_change_once}
use Rattle.law_operands_fetched.specs.rtl_func.Shapes.{is_effect, is_shaped}
use Rattle.law_operands_fetched.proofs.rtl_func.AllPass.{all_pass}
use Rattle.law_operands_fetched.specs.rtl_step.Effect.{effects_of}
use Rattle.law_operands_fetched.specs.rtl_step.Regs.{Regs}
use Rattle.law_operands_fetched.specs.rtl_step.Value.{value_of}
use Rattle.law_operands_fetched.specs.rtl_step.declared.effect.Effect.{Effect}
use Rattle.law_operands_fetched.specs.sym_insns.Shape.{all_natural}
use Rattle.law_operands_fetched.specs.md_constr.Inputs as inputs
use Rattle.law_operands_fetched.specs.md_match.Pattern.{Ops, role_of, instantiated}
use Rattle.law_operands_fetched.specs.md_match.declared.role.Role.{Role}
use Rattle.law_operands_fetched.specs.md_match.declared.role.Role.TheVariants.{Operand, Operator, Itself}
use Rattle.law_operands_fetched.specs.assign.declared.home.Home.TheVariants.{Slot}
use Rattle.law_operands_fetched.specs.assign.declared.home.HomeOf.{HomeOf}
use Rattle.law_operands_fetched.specs.assign.declared.places.Layout.{Layout}
use Rattle.law_operands_fetched.specs.reload_homes.Homes.{home_of, slot_offset, slot_address, homed}
use Rattle.law_operands_fetched.specs.reload_operands.declared.operand.Operand.{Operand as OperandOf}
use Rattle.law_operands_fetched.specs.reload_choice.Sound.{IsSoundPlan}
use Rattle.law_operands_fetched.specs.reload_choice.declared.given.Plan.{Plan}
use Rattle.law_reload_moves.proofs.AllOrderly.{EachOutside, orderly}
use Rattle.law_reload_moves.proofs.AllSoles.{ends_there, all_soles}
use Rattle.law_reload_moves.proofs.Chosen.{given}
use Rattle.law_operands_fetched.proofs.law_operands_replaced.ElementTurns.{key_by, key_of}
use Rattle.law_reload_moves.proofs.GivenNews.{result_at}
use Rattle.law_reload_moves.proofs.InputPlaces.{no_operator_of}
use Rattle.law_operands_fetched.proofs.law_operands_replaced.Keyed.{IsIn, MayPassBy, AreOrderly}
use Rattle.law_operands_fetched.proofs.law_operands_replaced.Keying.{with_keys}
use Rattle.law_reload_moves.proofs.ResultKeys.{result_places, result_in, keyed_result}
use Rattle.law_reload_moves.proofs.ResultRows.{Key, Row, Rows, none, more}
use Rattle.law_reload_moves.proofs.RowsThere.{all_rows, once_of}
use Rattle.law_operands_fetched.proofs.law_operands_replaced.WholeTurns.{AllNone}

-- ---- where none has a key

pub keyless : (places : List ℕ) (keys : List (Option ℕ)) (es : List Effect) → AllNone keys → AreOrderly places (with_keys keys es)
keyless places [] es are = tt
keyless places (key ∷ keys) [] are = tt
keyless places (key ∷ keys) (e ∷ es) are = (
  subst (λ key. MayPassBy places key e (with_keys keys es)) (sym are.0) tt,
  keyless places keys es are.1,
)

-- a placeholder is no set
placed_code : (c : Code) → role_of c ≢ Itself → (c ≢ code.Set) × (c ≢ code.Parallel)
placed_code c other = ((λ is. other (ap role_of is)), (λ is. other (ap role_of is)))

module _ (Result : ℤ → Option ℕ) where
  no_key : (c : Code) (kids : List Rtx) → c ≢ code.Set → key_by Result c kids ≡ None
  no_key code.Set kids other = absurd (other refl)
  no_key _ kids other = refl

  pub placed_keys : (c : Code) (p : Rtx) → (head_of p).code ≡ c → role_of c ≢ Itself → AllNone (map (key_of Result) (inputs.effects_by c p (kids_of p)))
  placed_keys code.Parallel p is other = absurd (other refl)
  placed_keys c p is other = (no_key (head_of p).code (kids_of p) (placed_code (head_of p).code (λ same. other (sym (ap role_of is) ∙ same))).0, tt)

module _ (homes : List HomeOf) (layout : Layout) (kind : Kind) (w pattern : Rtx) (found : Ops) (plan : Plan)
    (sound : IsSoundPlan (given homes layout kind w pattern found plan) plan) (symbols : List SymbolAt) (regs : Regs) (m : List MemByte) (sp : ℕ)
    (slot_is : (reg : ℕ) → home_of homes reg ≡ Slot → value_of symbols regs m (slot_address layout reg) W64 ≡ Some (sp + slot_offset layout reg))
    (slots_apart : (a b : ℕ) → a ≢ b → home_of homes a ≡ Slot → home_of homes b ≡ Slot → Apart (sp + slot_offset layout a) 8 (sp + slot_offset layout b) 8)
    (operators : (j : ℕ) (x : OperandOf) → slice_get (given homes layout kind w pattern found plan).operands j ≡ Some x → x.is_operator ≡ false →
    all_pass (no_operator_of x.number) pattern ≡ true) where
  abbrev hm : Rtx → Rtx
  hm = homed homes layout

  abbrev RowOf : Rtx → Rtx → Effect → Type 0
  RowOf = Row homes layout kind w pattern found plan sound symbols regs m

  abbrev RowsOf : List Rtx → List Rtx → List Effect → Type 0
  RowsOf = Rows homes layout kind w pattern found plan sound symbols regs m

  abbrev KeyOf : Rtx → Option ℕ
  KeyOf = Key homes layout kind w pattern found plan sound symbols regs m

  -- ---- one that has a key, or none

  pub record HasKey : Type 0 where
    pub q : Rtx
    pub v : Rtx
    pub e : Effect
    pub k : ℕ
    pub row : RowOf q v e
    pub key : KeyOf q ≡ Some k

  some_key : (qs vs : List Rtx) (es : List Effect) → RowsOf qs vs es → AllNone (map KeyOf qs) ⊎ HasKey
  some_key _ _ _ none = inl tt
  some_key _ _ _ (more q v e qs vs es row rows) = by (KeyOf q) refl (some_key qs vs es rows)
    where
      by : (o : Option ℕ) → KeyOf q ≡ o → AllNone (map KeyOf qs) ⊎ HasKey → AllNone (map KeyOf (q ∷ qs)) ⊎ HasKey
      by (Some k) is rest = inr (record { q = q; v = v; e = e; k = k; row = row; key = is })
      by None is (inl rest) = inl (is, rest)
      by None is (inr rest) = inr rest

  inside : (q v : Rtx) (e : Effect) (k : ℕ) → RowOf q v e → KeyOf q ≡ Some k → IsIn k (result_places plan.parts)
  inside q v e k row key = result_in homes layout kind w pattern found plan sound k (keyed_result homes layout kind w pattern found plan sound q k row.effect key)

  -- ---- all of them

  module _ (made : instantiated pattern found ≡ Some w) (effect : is_effect w ≡ true) (shaped : all_pass is_shaped w ≡ true) (natural : all_natural w ≡ true)
      (es : List Effect) (does : effects_of symbols regs m (hm w) ≡ Some es)
      (outside : EachOutside homes layout kind w pattern found plan sound symbols regs m sp slot_is slots_apart (inputs.effects_of w) es) where
    itself_orderly : role_of (head_of pattern).code ≡ Itself → AreOrderly (result_places plan.parts) (with_keys (map KeyOf (inputs.effects_of pattern)) es)
    itself_orderly role =
        let r = all_rows homes layout kind w pattern found plan sound symbols regs m es role made effect shaped natural does in
        elim (some_key (inputs.effects_of pattern) (inputs.effects_of w) es r.rows) [
          | inl are ↦ keyless (result_places plan.parts) (map KeyOf (inputs.effects_of pattern)) es are
          | inr h ↦
              let end = ends_there homes layout kind w pattern found plan sound symbols regs m sp slot_is slots_apart operators h.q h.v h.e h.k h.row h.key in
              orderly homes layout kind w pattern found plan sound symbols regs m sp slot_is slots_apart (result_places plan.parts)
              (inputs.effects_of pattern) (inputs.effects_of w) es r.rows outside
              (r.before (once_of (parallels_change_once w) end.before)) (r.after (once_of (parallels_change_once (hm w)) end.after))
              (all_soles homes layout kind w pattern found plan sound symbols regs m sp slot_is slots_apart operators
              (inputs.effects_of pattern) (inputs.effects_of w) es r.rows (λ n is. is)) inside
        ]

    -- they may be delayed
    pub results_orderly : (keys : List (Option ℕ)) → (keys ≡ map KeyOf (inputs.effects_of pattern)) ⊎ AllNone keys →
        AreOrderly (result_places plan.parts) (with_keys keys es)
    results_orderly keys (inr are) = keyless (result_places plan.parts) keys es are
    results_orderly keys (inl same) = subst (λ keys. AreOrderly (result_places plan.parts) (with_keys keys es)) (sym same) (by (role_of (head_of pattern).code) refl)
      where
        placed : role_of (head_of pattern).code ≢ Itself → AreOrderly (result_places plan.parts) (with_keys (map KeyOf (inputs.effects_of pattern)) es)
        placed other = keyless (result_places plan.parts) (map KeyOf (inputs.effects_of pattern)) es
            (placed_keys (result_at homes layout kind w pattern found plan) (head_of pattern).code pattern refl other)

        by : (r : Role) → role_of (head_of pattern).code ≡ r → AreOrderly (result_places plan.parts) (with_keys (map KeyOf (inputs.effects_of pattern)) es)
        by Itself is = itself_orderly is
        by Operand is = placed (λ same. let e : Operand ≡ Itself = sym is ∙ same in let no : ⊥ = cc in no)
        by Operator is = placed (λ same. let e : Operator ≡ Itself = sym is ∙ same in let no : ⊥ = cc in no)
