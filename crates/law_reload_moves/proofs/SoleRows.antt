-- Where a result that is moved ends in other memory, whatever else the instruction changes in memory is a place of the same operand.
use Rattle.std.proofs.Common.{◌≡◌, ◌≢◌, ◌⊎◌, inl, inr, ℕ, ◌+◌, ◌==◌, ◌&&◌, ◌||◌, not, Bool, true, false, List, [], ◌∷◌, map, Option, Some, None, refl, sym, ap, subst, ◌∙◌, arith}
use Rattle.std.proofs.lemmas.Bool.{and_parts}
use Rattle.std.proofs.lemmas.Bool.Decides.{nat_tests}
use Rattle.std.specs.Int.{cast_unsigned, w64}
use Rattle.std.specs.List.{list_all, list_any}
use Rattle.std.specs.Ordering.{int_eq}
use Rattle.std.proofs.lemmas.Bool.Decides.{Decides-int_eq, nat_tests}
use Rattle.std.specs.Prelude.{ℤ, pos, negsuc, slice_get, drop}
use Rattle.std.specs.Option.{option_map_or}
use Rattle.law_operands_fetched.specs.rtx_tree.Tree.{RtxHead, head_of, kids_of}
use Rattle.law_operands_fetched.specs.rtx_tree.declared.code.Code.{Code}
use Rattle.law_operands_fetched.specs.rtx_tree.declared.code.Code.TheVariants as code
use Rattle.law_operands_fetched.specs.rtx_tree.declared.function.Kind.{Kind}
use Rattle.law_operands_fetched.specs.rtx_tree.declared.machine.SymbolAt.{SymbolAt}
use Rattle.law_operands_fetched.specs.rtx_tree.declared.memories.MemByte.{MemByte}
use Rattle.law_operands_fetched.specs.rtx_tree.declared.tree.Rtx.{Rtx}
use Rattle.law_operands_fetched.proofs.run_memory.Laws.{Apart}
use Rattle.law_operands_fetched.specs.rtl_step.Regs.{Regs}
use Rattle.law_operands_fetched.specs.rtl_step.Value.{value_of}
use Rattle.law_operands_fetched.specs.rtl_step.declared.effect.Effect.{Effect}
use Rattle.law_operands_fetched.specs.bits64.declared.Width.TheVariants.{W64}
use Rattle.law_operands_fetched.specs.md_constr.Inputs as inputs
use Rattle.law_operands_fetched.specs.md_constr.Inputs.{operand_here, changed_at_by, changed_at, changed_by_parts, changed_by, target_by}
use Rattle.law_operands_fetched.specs.md_match.Pattern.{Ops, role_of, operand_numbered, operand_of, instantiated}
use Rattle.law_operands_fetched.specs.md_match.declared.role.Role.TheVariants.{Operand, Operator}
use Rattle.law_operands_fetched.proofs.md_match.Instantiated.{made_operand, made_no_operator}
use Rattle.law_operands_fetched.specs.assign.declared.home.Home.TheVariants.{Slot}
use Rattle.law_operands_fetched.specs.assign.declared.home.HomeOf.{HomeOf}
use Rattle.law_operands_fetched.specs.assign.declared.places.Layout.{Layout}
use Rattle.law_operands_fetched.specs.reload_homes.Homes.{home_of, slot_offset, slot_address, homed}
use Rattle.law_operands_fetched.proofs.rtl_func.AllPass as nodes
use Rattle.law_operands_fetched.proofs.rtl_func.AllPass.{all_pass}
use Rattle.law_operands_fetched.specs.reload_operands.Changes.{is_memory_code, changes_memory, is_place_of, is_other_memory, any_other_memory}
use Rattle.law_operands_fetched.specs.reload_operands.Directions.{has_number}
use Rattle.law_operands_fetched.specs.reload_operands.declared.operand.Operand.{Operand as OperandOf}
use Rattle.law_operands_fetched.specs.reload_choice.Sound.{IsSoundPlan}
use Rattle.law_operands_fetched.specs.reload_choice.declared.given.Plan.{Plan}
use Rattle.law_reload_moves.proofs.AllOrderly.{EachSole}
use Rattle.law_reload_moves.proofs.Chosen.{given}
use Rattle.law_operands_fetched.proofs.law_operands_replaced.ElementTurns.{target_key, key_by, key_of}
use Rattle.law_reload_moves.proofs.GivenNews.{result_at}
use Rattle.law_reload_moves.proofs.RowsThere.{made_over}
use Rattle.law_reload_moves.proofs.InputPlaces.{is_operator_as, is_operator_of, no_operator_of, same_numbers}
use Rattle.law_reload_moves.proofs.Orderly.{SetsMemory}
use Rattle.law_reload_moves.proofs.ResultRows.{Key, Row, Rows, none, more, two_made}
use Rattle.law_reload_moves.proofs.TakenPlaces.{IsEffectOf}

-- ---- a set of memory

memory_set : (v : Rtx) → SetsMemory v → changes_memory v ≡ true
memory_set v s = ap (λ c. option_map_or (λ t. is_memory_code (head_of t).code) (target_by c (kids_of v)) false) s.is_set ∙
    ap (λ ks. option_map_or (λ t. is_memory_code (head_of t).code) (target_by code.Set ks) false) s.are ∙ ap is_memory_code s.memory

pub none_other : (a b : Bool) → (a || b) ≡ false → (a ≡ false) × (b ≡ false)
none_other true b is = absurd (let no : ⊥ = cc in no)
none_other false b is = (refl, is)

place_by : (changes place : Bool) → (changes && not place) ≡ false → changes ≡ true → place ≡ true
place_by true true is changes = refl
place_by true false is changes = absurd (let no : ⊥ = cc in no)
place_by false place is changes = absurd (let no : ⊥ = cc in no)

-- ---- the number of a place

pub number_there : (found : Ops) (n : ℤ) (k : ℕ) (t : Rtx) → operand_numbered found n ≡ Some t → has_number k (cast_unsigned w64 n ∷ []) ≡ true → n ≡ pos k
number_there found (pos j) k t is has = ap pos (same_numbers k j has)
number_there found (negsuc j) k t is has = absurd (let no : ⊥ = cc in no)

pub operand_there : (a : Rtx) (found : Ops) (t : Rtx) → role_of (head_of a).code ≡ Operator → instantiated a found ≡ Some t → (y : Rtx) × (operand_of a found ≡ Some y)
operand_there a found t is made = by (operand_of a found) refl
  where
    by : (o : Option Rtx) → operand_of a found ≡ o → (y : Rtx) × (operand_of a found ≡ Some y)
    by None at = absurd (let e : ◌≡◌ {A = Option Rtx} None (Some t) = sym (made_no_operator a found is at) ∙ made in let no : ⊥ = cc in no)
    by (Some y) at = (y, at)

abbrev pub IsPlace : Rtx → ℕ → Type 0
IsPlace a n = (role_of (head_of a).code ≡ Operand) × ((head_of a).number ≡ pos n)

-- what is a place of an operand, and memory, is the operand itself
place_is : (a t : Rtx) (found : Ops) (n : ℕ) → instantiated a found ≡ Some t → (head_of t).code ≡ code.Mem → has_number n (changed_at a) ≡ true →
    no_operator_of n a ≡ true → IsPlace a n
place_is a t found n made memory has apart =
    by (head_of a).code refl (ap (λ c. has_number n (changed_at_by c a (kids_of a))) refl ∙ has)
  where
    operand_case : (c : Code) → (head_of a).code ≡ c → role_of c ≡ Operand → has_number n (cast_unsigned w64 (head_of a).number ∷ []) ≡ true → IsPlace a n
    operand_case c is role has =
        let r = ap role_of is ∙ role in (r, number_there found (head_of a).number n t (sym (made_operand a found r) ∙ made) has)

    here : (c : Code) → (head_of a).code ≡ c → has_number n (operand_here (head_of a).code (head_of a).number) ≡ true → has_number n (operand_here c (head_of a).number) ≡ true
    here c is has = sym (ap (λ c. has_number n (operand_here c (head_of a).number)) is) ∙ has

    low_case : (head_of a).code ≡ code.Subreg → IsPlace a n
    low_case is =
        let o = made_over a t found (ap role_of is) made in
        let e : code.Subreg ≡ code.Mem = sym is ∙ ap (λ (h : RtxHead). h.code) (sym o.1.1.0) ∙ memory in absurd (let no : ⊥ = cc in no)

    by : (c : Code) → (head_of a).code ≡ c → has_number n (changed_at_by c a (kids_of a)) ≡ true → IsPlace a n
    by code.MatchOperand is has = operand_case code.MatchOperand is refl (here code.MatchOperand is has)
    by code.MatchDup is has = operand_case code.MatchDup is refl (here code.MatchDup is has)
    by code.MatchScratch is has = operand_case code.MatchScratch is refl (here code.MatchScratch is has)
    by code.MatchOperator is has =
        let y = operand_there a found t (ap role_of is) made in
        let number : (head_of a).number ≡ pos n = number_there found (head_of a).number n y.0 y.1 (here code.MatchOperator is has) in
        let e : is_operator_of n a ≡ true = ap (λ c. is_operator_as c && int_eq (head_of a).number (pos n)) is ∙
        (Decides-int_eq (head_of a).number (pos n)).1 number in
        let wrong : false ≡ true = sym (ap not e) ∙ apart in absurd (let no : ⊥ = cc in no)
    by code.Subreg is has = low_case is
    by c is has = absurd (let no : ⊥ = cc in no)

pub pair_is : (a b c d : Rtx) → ◌≡◌ {A = List Rtx} (a ∷ b ∷ []) (c ∷ d ∷ []) → a ≡ c
pair_is a b c d same = let e : a ≡ c = cc in e

-- ---- an effect of the pattern where it is a place of an operand

module _ (Result : ℤ → Option ℕ) (found : Ops) (n : ℕ) where
  pub key_is : (q a b : Rtx) → (head_of q).code ≡ code.Set → kids_of q ≡ a ∷ b ∷ [] → IsPlace a n → key_of Result q ≡ Result (pos n)
  key_is q a b is are place = ap (λ c. key_by Result c (kids_of q)) is ∙ ap (key_by Result code.Set) are ∙ ap (λ r. target_key Result r (head_of a).number) place.0 ∙
      ap (target_key Result Operand) place.1

  place_key : (q v : Rtx) → instantiated q found ≡ Some v → SetsMemory v → all_pass (no_operator_of n) q ≡ true → is_place_of n q ≡ true → key_of Result q ≡ Result (pos n)
  place_key q v made s apart has = by (head_of q).code (kids_of q) refl refl has
    where
      set_case : (a b : Rtx) → (head_of q).code ≡ code.Set → kids_of q ≡ a ∷ b ∷ [] → has_number n (changed_at a) ≡ true → key_of Result q ≡ Result (pos n)
      set_case a b is are has =
          let t = two_made q v a b found is are made in
          let same : t.0 ≡ s.target = pair_is t.0 t.1.0 s.target s.source (sym t.1.1.1.0 ∙ s.are) in
          let within = ap (list_all (all_pass (no_operator_of n))) (sym are) ∙ nodes.within (no_operator_of n) q apart in
          key_is q a b is are (place_is a t.0 found n t.1.1.1.1 (ap (λ (x : Rtx). (head_of x).code) same ∙ s.memory) has
          (nodes.itself (no_operator_of n) a (and_parts (all_pass (no_operator_of n) a) _ within).0))

      clobber_case : (head_of q).code ≡ code.Clobber → ⊥
      clobber_case is =
          let o = made_over q v found (ap role_of is) made in
          let e : code.Clobber ≡ code.Set = sym is ∙ ap (λ (h : RtxHead). h.code) (sym o.1.1.0) ∙ s.is_set in let no : ⊥ = cc in no

      by : (c : Code) (kids : List Rtx) → (head_of q).code ≡ c → kids_of q ≡ kids → has_number n (changed_by_parts c kids) ≡ true → key_of Result q ≡ Result (pos n)
      by code.Set (a ∷ b ∷ []) is are has = set_case a b is are has
      by code.Clobber (a ∷ []) is are has = absurd (clobber_case is)
      by c kids is are has = absurd (let no : ⊥ = cc in no)

-- ---- all of them

none_any : (f : Rtx → Bool) (xs : List Rtx) → list_all f xs ≡ true → list_any (λ x. not (f x)) xs ≡ false
none_any f [] all = refl
none_any f (x ∷ xs) all =
    let both = and_parts (f x) (list_all f xs) all in ap (λ b. not b || list_any (λ x. not (f x)) xs) both.0 ∙ none_any f xs both.1

each_effect : (f : Rtx → Bool) (c : Code) (p : Rtx) → (head_of p).code ≡ c → all_pass f p ≡ true → list_all (all_pass f) (inputs.effects_by c p (kids_of p)) ≡ true
each_effect f code.Parallel p is all = nodes.within f p all
each_effect f c p is all = ap (λ b. b && true) all

-- what passes within a pattern passes within its effects
pub passes_in : (f : Rtx → Bool) (p q : Rtx) → IsEffectOf p q → all_pass f p ≡ true → all_pass f q ≡ true
passes_in f p q effect all = by (all_pass f q) refl
  where
    by : (b : Bool) → all_pass f q ≡ b → all_pass f q ≡ true
    by true is = is
    by false is =
        let some = effect (λ y. not (all_pass f y)) (ap not is) in
        let e : true ≡ false = sym some ∙ none_any (all_pass f) (inputs.effects_of p) (each_effect f (head_of p).code p refl all) in absurd (let no : ⊥ = cc in no)

module _ (homes : List HomeOf) (layout : Layout) (kind : Kind) (w pattern : Rtx) (found : Ops) (plan : Plan)
    (sound : IsSoundPlan (given homes layout kind w pattern found plan) plan) (symbols : List SymbolAt) (regs : Regs) (m : List MemByte) (sp : ℕ)
    (slot_is : (reg : ℕ) → home_of homes reg ≡ Slot → value_of symbols regs m (slot_address layout reg) W64 ≡ Some (sp + slot_offset layout reg))
    (slots_apart : (a b : ℕ) → a ≢ b → home_of homes a ≡ Slot → home_of homes b ≡ Slot → Apart (sp + slot_offset layout a) 8 (sp + slot_offset layout b) 8)
    (operators : (j : ℕ) (x : OperandOf) → slice_get (given homes layout kind w pattern found plan).operands j ≡ Some x → x.is_operator ≡ false →
    all_pass (no_operator_of x.number) pattern ≡ true) where
  abbrev hm : Rtx → Rtx
  hm = homed homes layout

  abbrev RowOf : Rtx → Rtx → Effect → Type 0
  RowOf = Row homes layout kind w pattern found plan sound symbols regs m

  abbrev RowsOf : List Rtx → List Rtx → List Effect → Type 0
  RowsOf = Rows homes layout kind w pattern found plan sound symbols regs m

  abbrev KeyOf : Rtx → Option ℕ
  KeyOf = Key homes layout kind w pattern found plan sound symbols regs m

  abbrev Sole : Rtx → ℕ → List Rtx → List Rtx → Type 0
  Sole = EachSole homes layout kind w pattern found plan sound symbols regs m sp slot_is slots_apart

  -- each is a place of the operand where it changes memory
  pub sole_rows : (v : Rtx) (n k : ℕ) (qs vs : List Rtx) (es : List Effect) → RowsOf qs vs es → (SetsMemory v → any_other_memory n qs vs ≡ false) →
      all_pass (no_operator_of n) pattern ≡ true → result_at homes layout kind w pattern found plan (pos n) ≡ Some k → Sole v k qs vs
  sole_rows v n k _ _ _ none other apart at = tt
  sole_rows v n k _ _ _ (more q' v' e' qs vs es row rows) other apart at = (
    (λ s s'. let both = none_other (is_other_memory n (Some q') v') (any_other_memory n qs vs) (other s) in
        place_key (result_at homes layout kind w pattern found plan) found n q' v' row.made s' (passes_in (no_operator_of n) pattern q' row.effect apart)
        (place_by (changes_memory v') (is_place_of n q') both.0 (memory_set v' s')) ∙ at),
    sole_rows v n k qs vs es rows (λ s. (none_other (is_other_memory n (Some q') v') (any_other_memory n qs vs) (other s)).1) apart at,
  )
