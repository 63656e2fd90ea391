-- The effects of an instruction, in their order: those of operands that are moved may be delayed behind the others.
use Rattle.std.proofs.Common.{◌≡◌, ◌≢◌, ◌⊎◌, inl, inr, ℕ, ◌+◌, ◌==◌, ◌&&◌, ◌||◌, not, Bool, true, false, List, [], ◌∷◌, map, Option, Some, None, refl, sym, ap, subst, ◌∙◌, arith}
use Rattle.std.proofs.lemmas.Bool.{and_parts}
use Rattle.std.proofs.lemmas.Bool.Decides.{nat_tests}
use Rattle.std.specs.List.{cons_option, filter_map}
use Rattle.law_operands_fetched.specs.bits64.declared.Width.TheVariants.{W64}
use Rattle.law_operands_fetched.specs.rtx_tree.Tree.{head_of, kids_of}
use Rattle.law_operands_fetched.specs.rtx_tree.declared.code.Code.{Code}
use Rattle.law_operands_fetched.specs.rtx_tree.declared.code.Code.TheVariants as code
use Rattle.law_operands_fetched.specs.rtx_tree.declared.function.Kind.{Kind}
use Rattle.law_operands_fetched.specs.rtx_tree.declared.machine.SymbolAt.{SymbolAt}
use Rattle.law_operands_fetched.specs.rtx_tree.declared.memories.MemByte.{MemByte}
use Rattle.law_operands_fetched.specs.rtx_tree.declared.tree.Rtx.{Rtx}
use Rattle.law_operands_fetched.proofs.run_memory.Laws.{Apart}
use Rattle.law_operands_fetched.specs.rtl_func.Calls.{are_distinct}
use Rattle.law_operands_fetched.specs.rtl_func.Effects.{changed_register, changes_once_by, changes_once, parallels_change_once}
use Rattle.law_operands_fetched.specs.rtl_func.Paths.{has_place}
use Rattle.law_operands_fetched.proofs.rtl_func.AllPass.{itself}
use Rattle.law_operands_fetched.specs.rtl_step.Regs.{Regs}
use Rattle.law_operands_fetched.specs.rtl_step.Value.{value_of}
use Rattle.law_operands_fetched.specs.rtl_step.declared.effect.Effect.{Effect}
use Rattle.law_operands_fetched.specs.rtx_tree.Code.{class_of_code}
use Rattle.law_operands_fetched.specs.md_match.Pattern.{Ops}
use Rattle.law_operands_fetched.specs.assign.declared.home.Home.TheVariants.{Slot}
use Rattle.law_operands_fetched.specs.assign.declared.home.HomeOf.{HomeOf}
use Rattle.law_operands_fetched.specs.assign.declared.places.Layout.{Layout}
use Rattle.law_operands_fetched.specs.reload_homes.Homes.{home_of, slot_offset, slot_address, homed}
use Rattle.law_operands_fetched.specs.reload_choice.Sound.{IsSoundPlan}
use Rattle.law_operands_fetched.specs.reload_choice.declared.given.Plan.{Plan}
use Rattle.law_reload_moves.proofs.Chosen.{given}
use Rattle.law_operands_fetched.proofs.law_operands_replaced.Keyed.{IsIn, MayPass, MayPassBy, AreOrderly}
use Rattle.law_operands_fetched.proofs.law_operands_replaced.Keying.{with_keys}
use Rattle.law_reload_moves.proofs.Orderly.{Differ, IsOutside, IsSole, pair_passes}
use Rattle.law_reload_moves.proofs.ResultRows.{Key, Row, Rows, none, more}

-- ---- what some trees have differs

abbrev pub EachDiffers : (Rtx → Option ℕ) → Rtx → List Rtx → Type 0
EachDiffers f v [] = Unit {0}
EachDiffers f v (v' ∷ vs) = Differ f v v' × EachDiffers f v vs

abbrev pub AllDiffer : (Rtx → Option ℕ) → List Rtx → Type 0
AllDiffer f [] = Unit {0}
AllDiffer f (v ∷ vs) = EachDiffers f v vs × AllDiffer f vs

differ_values : (f : Rtx → Option ℕ) (v v' : Rtx) (a c : ℕ) → f v ≡ Some a → f v' ≡ Some c → not (c == a) ≡ true → Differ f v v'
differ_values f v v' a c is at other b d is' at' same =
    let first : Some a ≡ Some b = sym is ∙ is' in let a_is : a ≡ b = cc in
    let second : Some c ≡ Some d = sym at ∙ at' in let c_is : c ≡ d = cc in
    let e : c ≡ a = c_is ∙ sym same ∙ sym a_is in
    let equal : (c == a) ≡ true = grind (arith, nat_tests, e) in
    let wrong : false ≡ true = sym (ap not equal) ∙ other in let no : ⊥ = cc in no

not_or : (b c : Bool) → not (b || c) ≡ true → (not b ≡ true) × (not c ≡ true)
not_or true c is = absurd (let no : ⊥ = cc in no)
not_or false c is = (refl, is)

no_value : (f : Rtx → Option ℕ) (v v' : Rtx) → f v' ≡ None → Differ f v v'
no_value f v v' at b c is' at' = absurd (let e : ◌≡◌ {A = Option ℕ} None (Some c) = sym at ∙ at' in let no : ⊥ = cc in no)

no_value_first : (f : Rtx → Option ℕ) (v v' : Rtx) → f v ≡ None → Differ f v v'
no_value_first f v v' at b c is' at' = absurd (let e : ◌≡◌ {A = Option ℕ} None (Some b) = sym at ∙ is' in let no : ⊥ = cc in no)

differs_by : (f : Rtx → Option ℕ) (v : Rtx) (a : ℕ) (vs : List Rtx) → f v ≡ Some a →
    not (has_place (filter_map f vs) a) ≡ true → EachDiffers f v vs
differs_by f v a [] is absent = tt
differs_by f v a (v' ∷ vs) is absent = by (f v') refl absent (λ rest. differs_by f v a vs is rest)
  where
    by : (o : Option ℕ) → f v' ≡ o → not (has_place (cons_option o (filter_map f vs)) a) ≡ true →
        (not (has_place (filter_map f vs) a) ≡ true → EachDiffers f v vs) →
        EachDiffers f v (v' ∷ vs)
    by None at absent rest = (no_value f v v' at, rest absent)
    by (Some c) at absent rest =
        let both = not_or (c == a) (has_place (filter_map f vs) a) absent in (differ_values f v v' a c is at both.0, rest both.1)

none_differs : (f : Rtx → Option ℕ) (v : Rtx) (vs : List Rtx) → f v ≡ None → EachDiffers f v vs
none_differs f v [] is = tt
none_differs f v (v' ∷ vs) is = (no_value_first f v v' is, none_differs f v vs is)

-- what is distinct differs
pub all_differ : (f : Rtx → Option ℕ) (vs : List Rtx) → are_distinct (filter_map f vs) ≡ true → AllDiffer f vs
all_differ f [] distinct = tt
all_differ f (v ∷ vs) distinct = by (f v) refl distinct (λ rest. all_differ f vs rest)
  where
    by : (o : Option ℕ) → f v ≡ o → are_distinct (cons_option o (filter_map f vs)) ≡ true →
        (are_distinct (filter_map f vs) ≡ true → AllDiffer f vs) → AllDiffer f (v ∷ vs)
    by None is distinct rest = (none_differs f v vs is, rest distinct)
    by (Some a) is distinct rest =
        let both = and_parts (not (has_place (filter_map f vs) a)) (are_distinct (filter_map f vs)) distinct in
        (differs_by f v a vs is both.0, rest both.1)

once_by : (c : Code) (parts : List Rtx) → c ≡ code.Parallel → changes_once_by (class_of_code c) parts ≡ true →
    are_distinct (filter_map changed_register parts) ≡ true
once_by c parts is once = ap (λ c. changes_once_by (class_of_code c) parts) (sym is) ∙ once

-- the elements of a parallel that changes no register twice
pub parallel_differs : (x : Rtx) → (head_of x).code ≡ code.Parallel → parallels_change_once x ≡ true →
    AllDiffer changed_register (kids_of x)
parallel_differs x is once = all_differ changed_register (kids_of x) (once_by (head_of x).code (kids_of x) is (itself changes_once x once))

module _ (homes : List HomeOf) (layout : Layout) (kind : Kind) (w pattern : Rtx) (found : Ops) (plan : Plan)
    (sound : IsSoundPlan (given homes layout kind w pattern found plan) plan) (symbols : List SymbolAt) (regs : Regs)
    (m : List MemByte) (sp : ℕ)
    (slot_is : (reg : ℕ) → home_of homes reg ≡ Slot → value_of symbols regs m (slot_address layout reg) W64 ≡ Some
    (sp + slot_offset layout reg))
    (slots_apart : (a b : ℕ) → a ≢ b → home_of homes a ≡ Slot → home_of homes b ≡ Slot →
    Apart (sp + slot_offset layout a) 8 (sp + slot_offset layout b) 8) where
  abbrev hm : Rtx → Rtx
  hm = homed homes layout

  abbrev RowsOf : List Rtx → List Rtx → List Effect → Type 0
  RowsOf = Rows homes layout kind w pattern found plan sound symbols regs m

  abbrev RowOf : Rtx → Rtx → Effect → Type 0
  RowOf = Row homes layout kind w pattern found plan sound symbols regs m

  abbrev pub KeyOf : Rtx → Option ℕ
  KeyOf = Key homes layout kind w pattern found plan sound symbols regs m

  abbrev Outside : Rtx → Effect → Type 0
  Outside = IsOutside homes layout kind w pattern found plan sound symbols regs m sp slot_is slots_apart

  abbrev Sole : Rtx → ℕ → Rtx → Rtx → Type 0
  Sole = IsSole homes layout kind w pattern found plan sound symbols regs m sp slot_is slots_apart

  abbrev pub EachOutside : List Rtx → List Effect → Type 0
  EachOutside [] es = Unit {0}
  EachOutside (v ∷ vs) [] = Unit {0}
  EachOutside (v ∷ vs) (e ∷ es) = Outside v e × EachOutside vs es

  abbrev pub EachSole : Rtx → ℕ → List Rtx → List Rtx → Type 0
  EachSole v k [] vs = Unit {0}
  EachSole v k (q ∷ qs) [] = Unit {0}
  EachSole v k (q ∷ qs) (v' ∷ vs) = Sole v k q v' × EachSole v k qs vs

  abbrev pub AllSole : List Rtx → List Rtx → Type 0
  AllSole [] vs = Unit {0}
  AllSole (q ∷ qs) [] = Unit {0}
  AllSole (q ∷ qs) (v ∷ vs) = ((k : ℕ) → KeyOf q ≡ Some k → EachSole v k qs vs) × AllSole qs vs

  passes : (q v : Rtx) (e : Effect) (k : ℕ) (qs vs : List Rtx) (es : List Effect) → RowOf q v e → RowsOf qs vs es →
      Outside v e → EachOutside vs es →
      EachDiffers changed_register v vs → EachDiffers changed_register (hm v) (map hm vs) → EachSole v k qs vs → KeyOf q ≡ Some k →
      MayPass k e (with_keys (map KeyOf qs) es)
  passes q v e k _ _ _ row none out outs before after sole key = tt
  passes q v e k _ _ _ row (more q' v' e' qs vs es row' rows) out outs before after sole key = (
    pair_passes homes layout kind w pattern found plan sound symbols regs m sp slot_is slots_apart q v q' v' e e' k
        row row' out outs.0 before.0 after.0 sole.0 key,
    passes q v e k qs vs es row rows out outs.1 before.1 after.1 sole.1 key,
  )

  pub orderly : (places : List ℕ) (qs vs : List Rtx) (es : List Effect) → RowsOf qs vs es → EachOutside vs es →
      AllDiffer changed_register vs →
      AllDiffer changed_register (map hm vs) → AllSole qs vs → ((q : Rtx) (v : Rtx) (e : Effect) (k : ℕ) →
      RowOf q v e → KeyOf q ≡ Some k → IsIn k places) →
      AreOrderly places (with_keys (map KeyOf qs) es)
  orderly places _ _ _ none outs before after sole inside = tt
  orderly places _ _ _ (more q v e qs vs es row rows) outs before after sole inside = (
    by (KeyOf q) refl,
    orderly places qs vs es rows outs.1 before.1 after.1 sole.1 inside,
  )
    where
      by : (key : Option ℕ) → KeyOf q ≡ key → MayPassBy places key e (with_keys (map KeyOf qs) es)
      by None is = tt
      by (Some k) is = (inside q v e k row is, passes q v e k qs vs es row rows outs.0 outs.1 before.0 after.0 (sole.0 k is) is)
