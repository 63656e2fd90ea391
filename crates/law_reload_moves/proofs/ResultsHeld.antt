-- Results that are moved go through registers of their own, which hold them behind the instruction.
use Rattle.std.proofs.Common.{◌≡◌, ◌≢◌, ◌⊎◌, inl, inr, ℕ, eqb, ◌+◌, ◌&&◌, ◌||◌, not, if◌then◌else◌, Bool, true, false, List, [], ◌∷◌, map, Option, Some, None, refl, sym, ap, subst, ◌∙◌, arith}
use Rattle.std.proofs.lemmas.Bool.{and_parts}
use Rattle.std.proofs.lemmas.Bool.Decides.{nat_tests}
use Rattle.std.specs.FinMap.{get}
use Rattle.std.specs.Prelude.{slice_get}
use Rattle.law_operands_fetched.specs.bits64.Words.{bytes_of}
use Rattle.law_operands_fetched.specs.bits64.declared.Width.{Width}
use Rattle.law_operands_fetched.specs.bits64.declared.Width.TheVariants.{W8, W16, W32, W64}
use Rattle.law_operands_fetched.specs.rtx_tree.declared.function.Kind.{Kind}
use Rattle.law_operands_fetched.specs.rtx_tree.declared.machine.SymbolAt.{SymbolAt}
use Rattle.law_operands_fetched.specs.rtx_tree.declared.memories.MemByte.{MemByte}
use Rattle.law_operands_fetched.specs.rtx_tree.declared.tree.Rtx.{Rtx}
use Rattle.law_operands_fetched.proofs.run_memory.Laws.{Apart}
use Rattle.law_operands_fetched.specs.rtl_step.Effect.{set_effect, regs_after}
use Rattle.law_operands_fetched.specs.rtl_step.Regs.{Regs, known_of}
use Rattle.law_operands_fetched.specs.rtl_step.declared.effect.Effect.{Effect}
use Rattle.law_operands_fetched.specs.rtl_step.declared.effect.Effect.TheVariants.{Sets, Stores}
use Rattle.law_operands_fetched.specs.c_eval.Value.{same_tree}
use Rattle.law_operands_fetched.proofs.c_eval.Same.{same_trees}
use Rattle.law_operands_fetched.specs.md_match.Pattern.{Ops}
use Rattle.law_operands_fetched.specs.assign.declared.home.HomeOf.{HomeOf}
use Rattle.law_operands_fetched.specs.assign.declared.places.Layout.{Layout}
use Rattle.law_operands_fetched.specs.reload_homes.Homes.{homed}
use Rattle.law_operands_fetched.specs.reload_moves.Moves.{own_of}
use Rattle.law_operands_fetched.specs.reload_choice.Movable.{are_same_inputs, are_same_outputs, is_alone}
use Rattle.law_operands_fetched.specs.reload_choice.Sound.{IsSoundPlan}
use Rattle.law_operands_fetched.specs.reload_choice.declared.given.Plan.{Plan}
use Rattle.law_operands_fetched.specs.law_operands_replaced.Spare.{is_spare}
use Rattle.law_reload_moves.proofs.Chosen.{given, asks}
use Rattle.law_operands_fetched.specs.rtl_step.Value.{width_of}
use Rattle.law_operands_fetched.proofs.law_operands_replaced.Elements.{IsSet}
use Rattle.law_operands_fetched.proofs.law_operands_replaced.Delays.{AreApart, Overrides}
use Rattle.law_reload_moves.proofs.GivenNews.{IsResultAt, own, mode, tree, Free, own_is, own_spare, one_holder, shares}
use Rattle.law_operands_fetched.proofs.law_operands_replaced.Keyed.{Keyed, last_by, last_of, MayPass, MayPassBy, AreOrderly, last_apart}
use Rattle.law_operands_fetched.proofs.law_operands_replaced.Keying.{with_keys, AllKeyed, AreOnRest, AreResults, IsHeld, all_held}
use Rattle.law_reload_moves.proofs.Orderly.{overrides}
use Rattle.law_reload_moves.proofs.ResultKeys.{keyed_result}
use Rattle.law_reload_moves.proofs.ResultRows.{Key, Row, Rows, none, more, IsKeyedRow, keyed_row}

-- ---- one place is no two

some_bytes : (w : Width) (a : ℕ) → Apart a (bytes_of w) a (bytes_of w) → ⊥
some_bytes W8 a (inl first) = omega (arith, first)
some_bytes W8 a (inr second) = omega (arith, second)
some_bytes W16 a (inl first) = omega (arith, first)
some_bytes W16 a (inr second) = omega (arith, second)
some_bytes W32 a (inl first) = omega (arith, first)
some_bytes W32 a (inr second) = omega (arith, second)
some_bytes W64 a (inl first) = omega (arith, first)
some_bytes W64 a (inr second) = omega (arith, second)

clash : (e o : Effect) → Overrides e o → AreApart e o → ⊥
clash (Sets r k) (Sets q l) same apart = apart same
clash (Stores w at value) (Stores w' at' value') same apart =
    some_bytes w at (subst (λ v. Apart at (bytes_of w) at (bytes_of v)) (sym same.0) (subst (λ a. Apart at (bytes_of w) a (bytes_of w')) (sym same.1) apart))
clash _ _ same apart = absurd same

-- ---- the last effects of two operands

abbrev pub IsLastBy : Option Effect → Option ℕ → ℕ → Effect → Effect → Type 0
IsLastBy before key j x e = (before ≡ Some e) ⊎ ((key ≡ Some j) × (x ≡ e))

pub last_cases : (before : Option Effect) (key : Option ℕ) (j : ℕ) (x e : Effect) → last_by before key j x ≡ Some e → IsLastBy before key j x e
last_cases (Some o) key j x e is = inl is
last_cases None None j x e is = absurd (let no : ⊥ = cc in no)
last_cases None (Some i) j x e is = by (eqb i j) refl is
  where
    by : (b : Bool) → eqb i j ≡ b → (if b then Some x else None) ≡ Some e → IsLastBy None (Some i) j x e
    by true same is = inr (ap Some (let e : i ≡ j = grind (arith, nat_tests, same) in e), (let e : x ≡ e = cc in e))
    by false same is = absurd (let no : ⊥ = cc in no)

passed_by : (places : List ℕ) (key : Option ℕ) (j : ℕ) (x : Effect) (xs : List Keyed) → key ≡ Some j → MayPassBy places key x xs → MayPass j x xs
passed_by places None j x xs is may = absurd (let no : ⊥ = cc in no)
passed_by places (Some i) j x xs is may = let same : i ≡ j = cc in subst (λ i. MayPass i x xs) same may.1

two_apart : (places : List ℕ) (xs : List Keyed) (j k : ℕ) (e o : Effect) → AreOrderly places xs → j ≢ k → last_of xs j ≡ Some e → last_of xs k ≡ Some o →
    AreApart e o ⊎ AreApart o e
two_apart places [] j k e o orderly differ is is' = absurd (let no : ⊥ = cc in no)
two_apart places (x ∷ xs) j k e o orderly differ is is' =
    by (λ first second. two_apart places xs j k e o orderly.1 differ first second)
    (last_cases (last_of xs j) x.key j x.effect e is) (last_cases (last_of xs k) x.key k x.effect o is')
  where
    by : (last_of xs j ≡ Some e → last_of xs k ≡ Some o → AreApart e o ⊎ AreApart o e) → IsLastBy (last_of xs j) x.key j x.effect e → IsLastBy (last_of xs k) x.key k x.effect o → AreApart e o ⊎ AreApart o e
    by rest (inl first) (inl second) = rest first second
    by rest (inr first) (inl second) = inl (subst (λ e. AreApart e o) first.1
        (last_apart xs k j x.effect o (λ same. differ (sym same)) (passed_by places x.key j x.effect xs first.0 orderly.0) second))
    by rest (inl first) (inr second) = inr (subst (λ o. AreApart o e) second.1
        (last_apart xs j k x.effect e differ (passed_by places x.key k x.effect xs second.0 orderly.0) first))
    by rest (inr first) (inr second) = absurd (differ (let both : Some j ≡ Some k = sym first.0 ∙ second.0 in cc))

-- ---- what holds of each that has a key

-- one of some effects is the last of its operand
pub record IsLast (xs : List Keyed) (j : ℕ) : Type 0 where
  pub effect : Effect
  pub is : last_of xs j ≡ Some effect

pub last_later : (x : Keyed) (xs : List Keyed) (j : ℕ) → IsLast xs j → IsLast (x ∷ xs) j
last_later x xs j l = record { effect = l.effect; is = ap (λ o. last_by o x.key j x.effect) l.is }

pub last_here : (x : Keyed) (xs : List Keyed) (j : ℕ) → x.key ≡ Some j → IsLast (x ∷ xs) j
last_here x xs j is = by (last_of xs j) refl
  where
    by : (o : Option Effect) → last_of xs j ≡ o → IsLast (x ∷ xs) j
    by (Some e) at = last_later x xs j (record { effect = e; is = at })
    by None at = record {
      effect = x.effect;
      is = ap (λ o. last_by o x.key j x.effect) at ∙ ap (λ key. last_by None key j x.effect) is ∙
          ap (λ b. if b then Some x.effect else None) (let same : eqb j j ≡ true = grind (arith, nat_tests) in same);
    }

-- a register's number is not 0
pub spare_some : (q : ℕ) → is_spare q ≡ true → q ≢ 0
spare_some q is same = let e : is_spare 0 ≡ true = ap is_spare (sym same) ∙ is in let wrong : false ≡ true = e in let no : ⊥ = cc in no

outputs_same : (b : Bool) (output output' : Bool) → not (output && output') || b ≡ true → output ≡ true → output' ≡ true → b ≡ true
outputs_same true output output' is first second = refl
outputs_same false true true is first second = absurd (let no : ⊥ = cc in no)
outputs_same false false output' is first second = absurd (let no : ⊥ = cc in no)
outputs_same false true false is first second = absurd (let no : ⊥ = cc in no)

module _ (homes : List HomeOf) (layout : Layout) (kind : Kind) (w pattern : Rtx) (found : Ops) (plan : Plan)
    (sound : IsSoundPlan (given homes layout kind w pattern found plan) plan) (symbols : List SymbolAt) (regs other : Regs) (m : List MemByte) where
  abbrev hm : Rtx → Rtx
  hm = homed homes layout

  abbrev RowOf : Rtx → Rtx → Effect → Type 0
  RowOf = Row homes layout kind w pattern found plan sound symbols regs m

  abbrev RowsOf : List Rtx → List Rtx → List Effect → Type 0
  RowsOf = Rows homes layout kind w pattern found plan sound symbols regs m

  abbrev KeyOf : Rtx → Option ℕ
  KeyOf = Key homes layout kind w pattern found plan sound symbols regs m

  abbrev pub Own : ℕ → ℕ
  Own = own homes layout kind w pattern found plan

  all_last : (P : ℕ → Type 0) (xs : List Keyed) → ((j : ℕ) → IsLast xs j → P j) →
      AreResults symbols regs other m Own (mode homes layout kind w pattern found plan) (tree homes layout kind w pattern found plan)
      (Free homes layout kind w pattern found plan) P xs
  all_last P [] each = tt
  all_last P (x ∷ xs) each = (
    (λ j is. each j (last_here x xs j is)),
    all_last P xs (λ j l. each j (last_later x xs j l)),
  )

  -- the effect of the pattern that is the last of a result
  pub record LastRow (k : ℕ) (e : Effect) : Type 0 where
    pub q : Rtx
    pub v : Rtx
    pub row : RowOf q v e
    pub key : KeyOf q ≡ Some k

  pub last_row : (qs vs : List Rtx) (es : List Effect) → RowsOf qs vs es → (k : ℕ) (e : Effect) → last_of (with_keys (map KeyOf qs) es) k ≡ Some e → LastRow k e
  last_row _ _ _ none k e is = absurd (let no : ⊥ = cc in no)
  last_row _ _ _ (more q v e' qs vs es row rows) k e is =
      elim (last_cases (last_of (with_keys (map KeyOf qs) es) k) (KeyOf q) k e' e is) [
        | inl later ↦ last_row qs vs es rows k e later
        | inr here ↦ record { q = q; v = v; row = subst (RowOf q v) here.1 row; key = here.0 }
      ]

  module _ (places : List ℕ) (qs vs : List Rtx) (es : List Effect) (rows : RowsOf qs vs es) (orderly : AreOrderly places (with_keys (map KeyOf qs) es)) where
    abbrev pub keyed : List Keyed
    keyed = with_keys (map KeyOf qs) es

    abbrev pub Lasts : ℕ → Type 0
    Lasts = IsLast keyed

    pub result_of : (k : ℕ) → Lasts k → IsResultAt plan k
    result_of k l =
        let r = last_row qs vs es rows k l.effect l.is in keyed_result homes layout kind w pattern found plan sound r.q k r.row.effect r.key

    pub keyed_of : (k : ℕ) → (l : Lasts k) → IsKeyedRow homes layout kind w pattern found plan sound symbols regs m
        (last_row qs vs es rows k l.effect l.is).v l.effect k
    keyed_of k l =
        let r = last_row qs vs es rows k l.effect l.is in keyed_row homes layout kind w pattern found plan sound symbols regs m r.q r.v l.effect k r.row r.key

    pub own_here : (k : ℕ) → (l : Lasts k) → Own k ≡ own_of (asks homes layout kind w pattern found plan) (keyed_of k l).p
    own_here k l =
        let r = keyed_of k l in
        ap Own (sym (sound.in_order k r.p r.part.stands)) ∙ own_is homes layout kind w pattern found plan sound k r.p r.x r.part

    -- two that go through one register would be the same place
    own_apart : (j k : ℕ) → Lasts j → Lasts k → j ≢ k → Own j ≢ Own k
    own_apart j k l l' differ same =
        let r = keyed_of j l in
        let r' = keyed_of k l' in
        let moved = and_parts r.p.is_moved r.p.needs.is_output r.result in
        let moved' = and_parts r'.p.is_moved r'.p.needs.is_output r'.result in
        let holder = one_holder homes layout kind w pattern found plan sound j k r.p r'.p r.part.stands r'.part.stands moved.0 moved'.0
        (sym (own_here j l) ∙ same ∙ own_here k l') in
        let may = sound.shared j k r.p r'.p r.x r'.x r.part r'.part (shares r.p r'.p moved.0 moved'.0 holder) in
        let outputs = (and_parts (are_same_outputs r.x r'.x) (is_alone r.x r'.x) (and_parts (are_same_inputs r.x r'.x) _ may).1).0 in
        let trees = same_trees r.x.tree r'.x.tree (outputs_same (same_tree r.x.tree r'.x.tree) r.x.is_output r'.x.is_output outputs
        (sym (sound.says j r.p r.x r.part).output ∙ moved.1) (sym (sound.says k r'.p r'.x r'.part).output ∙ moved'.1)) in
        elim (two_apart places keyed j k l.effect l'.effect orderly differ l.is l'.is) [
          | inl apart ↦ clash l.effect l'.effect (overrides symbols regs m r.x.tree (hm r.s) (hm r'.s) l.effect l'.effect r.does
              (ap (λ t. set_effect symbols regs m t (hm r'.s)) trees ∙ r'.does)) apart
          | inr apart ↦ clash l'.effect l.effect (overrides symbols regs m r.x.tree (hm r'.s) (hm r.s) l'.effect l.effect
              (ap (λ t. set_effect symbols regs m t (hm r'.s)) trees ∙ r'.does) r.does) apart
        ]

    free_apart : (q k : ℕ) → Free homes layout kind w pattern found plan q → Lasts k → q ≢ Own k
    free_apart q k free l = free.0 k (result_of k l)

    -- what the register of a result holds
    pub record IsHeldBy (ds : List Effect) (k : ℕ) (e : Effect) : Type 0 where
      pub spare : is_spare (Own k) ≡ true
      pub width : Width
      pub value : ℕ
      pub sets : IsSet symbols regs other m width value e
      pub wide : width_of (mode homes layout kind w pattern found plan k) ≡ Some width
      pub holds : (r : Regs) → get (regs_after ds r) (Own k) ≡ Some (known_of width value)

    own_is_spare : (k : ℕ) → Lasts k → is_spare (Own k) ≡ true
    own_is_spare k l =
        let r = keyed_of k l in
        ap is_spare (own_here k l) ∙ own_spare homes layout kind w pattern found plan sound k r.p r.part.stands (and_parts r.p.is_moved r.p.needs.is_output r.result).0

    pub results_held : (ds : List Effect) → AllKeyed symbols regs other m Own (mode homes layout kind w pattern found plan) (tree homes layout kind w pattern found plan)
        (Free homes layout kind w pattern found plan) keyed ds →
        AreOnRest symbols regs other m Own (mode homes layout kind w pattern found plan) (tree homes layout kind w pattern found plan)
        (Free homes layout kind w pattern found plan) keyed → (k : ℕ) → (l : Lasts k) →
        IsHeldBy ds k l.effect
    results_held ds all on k l =
        let h = all_held symbols regs other m Own (mode homes layout kind w pattern found plan) (tree homes layout kind w pattern found plan)
        (Free homes layout kind w pattern found plan) Lasts own_apart free_apart k l (own_is_spare k l) keyed ds l.effect
        (spare_some (Own k) (own_is_spare k l)) all on (all_last Lasts keyed (λ j last. last)) l.is in record {
          spare = own_is_spare k l;
          width = h.width;
          value = h.value;
          sets = h.sets;
          wide = h.wide;
          holds = h.holds;
        }
