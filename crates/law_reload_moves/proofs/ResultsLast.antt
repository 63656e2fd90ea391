-- Each result that is moved is what some effect of its instruction sets.
use Rattle.std.proofs.Common.{◌≡◌, ◌≢◌, ◌⊎◌, inl, inr, ℕ, ◌&&◌, ◌||◌, not, Bool, true, false, List, [], ◌∷◌, ◌++◌, map, Option, Some, None, refl, sym, ap, subst, ◌∙◌}
use Rattle.std.proofs.lemmas.Bool.{and_parts, or_cases}
use Rattle.std.proofs.lemmas.Bool.Decides.{Decides-int_eq, nat_tests}
use Rattle.std.specs.Int.{cast_unsigned, w64}
use Rattle.std.specs.List.{flat_map, list_all, list_any}
use Rattle.std.specs.Ordering.{int_eq}
use Rattle.std.specs.Prelude.{ℤ, pos, slice_get}
use Rattle.law_operands_fetched.specs.rtx_tree.Tree.{RtxHead, head_of, kids_of}
use Rattle.law_operands_fetched.specs.rtx_tree.declared.code.Code.{Code}
use Rattle.law_operands_fetched.specs.rtx_tree.declared.code.Code.TheVariants as code
use Rattle.law_operands_fetched.specs.rtx_tree.declared.function.Kind.{Kind}
use Rattle.law_operands_fetched.specs.rtx_tree.declared.machine.SymbolAt.{SymbolAt}
use Rattle.law_operands_fetched.specs.rtx_tree.declared.memories.MemByte.{MemByte}
use Rattle.law_operands_fetched.specs.rtx_tree.declared.tree.Rtx.{Rtx}
use Rattle.law_operands_fetched.proofs.rtl_func.AllPass as nodes
use Rattle.law_operands_fetched.proofs.rtl_func.AllPass.{all_pass}
use Rattle.law_operands_fetched.specs.rtl_step.Regs.{Regs}
use Rattle.law_operands_fetched.specs.rtl_step.declared.effect.Effect.{Effect}
use Rattle.law_operands_fetched.specs.md_constr.Inputs as inputs
use Rattle.law_operands_fetched.specs.md_constr.Inputs.{operand_here, changed_whole, changed_at_by, changed_at, set_by_parts, set_by}
use Rattle.law_operands_fetched.specs.md_match.Pattern.{Ops, role_of, instantiated}
use Rattle.law_operands_fetched.specs.md_match.declared.role.Role.{Role}
use Rattle.law_operands_fetched.specs.md_match.declared.role.Role.TheVariants.{Operand, Operator, Itself}
use Rattle.law_operands_fetched.proofs.md_match.Instantiated.{each_made, made_operand}
use Rattle.law_operands_fetched.specs.assign.declared.home.HomeOf.{HomeOf}
use Rattle.law_operands_fetched.specs.assign.declared.places.Layout.{Layout}
use Rattle.law_operands_fetched.proofs.reload_operands.InsideLaws.{inside_operand, inside_operator, inside_itself}
use Rattle.law_operands_fetched.specs.reload_operands.Directions.{has_number}
use Rattle.law_operands_fetched.specs.reload_operands.Put.{is_lowpart_code, is_lowpart, any_inside, inside_low, in_lowpart}
use Rattle.law_operands_fetched.specs.reload_choice.Sound.{IsSoundPlan}
use Rattle.law_operands_fetched.specs.reload_choice.declared.given.Plan.{Plan}
use Rattle.law_reload_moves.proofs.Chosen.{given}
use Rattle.law_operands_fetched.proofs.law_operands_replaced.ElementTurns.{key_of}
use Rattle.law_reload_moves.proofs.GivenNews.{result_at}
use Rattle.law_reload_moves.proofs.InputPlaces.{is_operator_as, is_operator_of, no_operator_of}
use Rattle.law_operands_fetched.proofs.law_operands_replaced.Keying.{with_keys}
use Rattle.law_reload_moves.proofs.ResultRows.{Key, Row, Rows, none, more, two_made}
use Rattle.law_reload_moves.proofs.ResultsHeld.{IsLast, last_later, last_here}
use Rattle.law_reload_moves.proofs.RowsThere.{made_over, made_front}
use Rattle.law_reload_moves.proofs.SoleRows.{IsPlace, number_there, operand_there, key_is, passes_in, none_other}

-- ---- what stands for a target with the number of an operand

-- the whole of a low part
low_there : (inner t' : Rtx) (found : Ops) (n : ℕ) → instantiated inner found ≡ Some t' → has_number n (changed_whole inner) ≡ true →
    inside_low n inner true t' ≡ true
low_there inner t' found n made has = by (head_of inner).code refl (ap (λ b. b) has)
  where
    number : (r : Role) → role_of (head_of inner).code ≡ r → r ≢ Itself → has_number n (cast_unsigned w64 (head_of inner).number ∷ []) ≡ true → (head_of inner).number ≡ pos n
    number Operand is other has = number_there found (head_of inner).number n t' (sym (made_operand inner found is) ∙ made) has
    number Operator is other has = let y = operand_there inner found t' is made in number_there found (head_of inner).number n y.0 y.1 has
    number Itself is other has = absurd (other refl)

    equal : (head_of inner).number ≡ pos n → int_eq (head_of inner).number (pos n) ≡ true
    equal same = (Decides-int_eq (head_of inner).number (pos n)).1 same

    operand_case : (c : Code) → (head_of inner).code ≡ c → role_of c ≡ Operand → has_number n (cast_unsigned w64 (head_of inner).number ∷ []) ≡ true → inside_low n inner true t' ≡ true
    operand_case c is role has =
        let r = ap role_of is ∙ role in
        inside_operand n inner true t' r ∙ equal (number Operand r (λ e. let no : ⊥ = cc in no) has)

    operator_case : (head_of inner).code ≡ code.MatchOperator → has_number n (cast_unsigned w64 (head_of inner).number ∷ []) ≡ true → inside_low n inner true t' ≡ true
    operator_case is has =
        let r = ap role_of is in
        inside_operator n inner true t' r ∙ ap (λ b. b || any_inside (map (inside_low n) (kids_of inner)) true (kids_of t'))
        (equal (number Operator r (λ e. let no : ⊥ = cc in no) has))

    here : (c : Code) → (head_of inner).code ≡ c → has_number n (operand_here (head_of inner).code (head_of inner).number) ≡ true → has_number n (operand_here c (head_of inner).number) ≡ true
    here c is has = sym (ap (λ c. has_number n (operand_here c (head_of inner).number)) is) ∙ has

    by : (c : Code) → (head_of inner).code ≡ c → has_number n (operand_here (head_of inner).code (head_of inner).number) ≡ true → inside_low n inner true t' ≡ true
    by code.MatchOperand is has = operand_case code.MatchOperand is refl (here code.MatchOperand is has)
    by code.MatchDup is has = operand_case code.MatchDup is refl (here code.MatchDup is has)
    by code.MatchScratch is has = operand_case code.MatchScratch is refl (here code.MatchScratch is has)
    by code.MatchOperator is has = operator_case is (here code.MatchOperator is has)
    by c is has = absurd (let e = here c is has in let no : ⊥ = cc in no)

-- a low part has it inside
low_target : (a t : Rtx) (found : Ops) (n : ℕ) (inner : Rtx) → instantiated a found ≡ Some t → (head_of a).code ≡ code.Subreg → kids_of a ≡ inner ∷ [] →
    has_number n (changed_whole inner) ≡ true → inside_low n a false t ≡ true
low_target a t found n inner made is are has =
    let o = made_over a t found (ap role_of is) made in
    let f = made_front (instantiated inner found) (Some []) o.0 (sym (ap (λ ks. each_made ks found) are) ∙ o.1.0) in
    let kids : kids_of t ≡ f.0 ∷ f.1.0 = o.1.1.1 ∙ f.1.1.0 in
    let low : is_lowpart t ≡ true = ap (λ (h : RtxHead). is_lowpart_code h.code) o.1.1.0 ∙ ap is_lowpart_code is in
    inside_itself n a false t (ap role_of is) ∙ ap (λ ks. any_inside (map (inside_low n) ks) (false || is_lowpart t) (kids_of t)) are ∙
    ap (λ b. any_inside (inside_low n inner ∷ []) b (kids_of t)) low ∙ ap (any_inside (inside_low n inner ∷ []) true) kids ∙
    ap (λ b. b || false) (low_there inner f.0 found n f.1.1.1.0 has)

-- so it is the operand itself where that has no place in a low part and is no operator
target_is : (a t : Rtx) (found : Ops) (n : ℕ) → instantiated a found ≡ Some t → has_number n (changed_at a) ≡ true → no_operator_of n a ≡ true →
    inside_low n a false t ≡ false → IsPlace a n
target_is a t found n made has apart clear = by (head_of a).code (kids_of a) refl refl has
  where
    operand_case : (c : Code) → (head_of a).code ≡ c → role_of c ≡ Operand → has_number n (cast_unsigned w64 (head_of a).number ∷ []) ≡ true → IsPlace a n
    operand_case c is role has =
        let r = ap role_of is ∙ role in (r, number_there found (head_of a).number n t (sym (made_operand a found r) ∙ made) has)

    here : (c : Code) → (head_of a).code ≡ c → has_number n (operand_here (head_of a).code (head_of a).number) ≡ true → has_number n (operand_here c (head_of a).number) ≡ true
    here c is has = sym (ap (λ c. has_number n (operand_here c (head_of a).number)) is) ∙ has

    operator_case : (head_of a).code ≡ code.MatchOperator → has_number n (cast_unsigned w64 (head_of a).number ∷ []) ≡ true → IsPlace a n
    operator_case is has =
        let y = operand_there a found t (ap role_of is) made in
        let number : (head_of a).number ≡ pos n = number_there found (head_of a).number n y.0 y.1 has in
        let e : is_operator_of n a ≡ true = ap (λ c. is_operator_as c && int_eq (head_of a).number (pos n)) is ∙
        (Decides-int_eq (head_of a).number (pos n)).1 number in
        let wrong : false ≡ true = sym (ap not e) ∙ apart in absurd (let no : ⊥ = cc in no)

    low_case : (inner : Rtx) → (head_of a).code ≡ code.Subreg → kids_of a ≡ inner ∷ [] → has_number n (changed_whole inner) ≡ true → IsPlace a n
    low_case inner is are has = let e : true ≡ false = sym (low_target a t found n inner made is are has) ∙ clear in absurd (let no : ⊥ = cc in no)

    by : (c : Code) (kids : List Rtx) → (head_of a).code ≡ c → kids_of a ≡ kids → has_number n (changed_at_by c a kids) ≡ true → IsPlace a n
    by code.MatchOperand kids is are has = operand_case code.MatchOperand is refl (here code.MatchOperand is has)
    by code.MatchDup kids is are has = operand_case code.MatchDup is refl (here code.MatchDup is has)
    by code.MatchScratch kids is are has = operand_case code.MatchScratch is refl (here code.MatchScratch is has)
    by code.MatchOperator kids is are has = operator_case is (here code.MatchOperator is has)
    by code.Subreg (inner ∷ []) is are has = low_case inner is are has
    by code.Subreg [] is are has = absurd (let e = here code.Subreg is has in let no : ⊥ = cc in no)
    by code.Subreg (x ∷ y ∷ kids) is are has = absurd (let e = here code.Subreg is has in let no : ⊥ = cc in no)
    by c kids is are has = absurd (let e = here c is has in let no : ⊥ = cc in no)

-- ---- an effect that sets it

module _ (Result : ℤ → Option ℕ) (found : Ops) (n : ℕ) where
  pub set_key : (q v : Rtx) → instantiated q found ≡ Some v → all_pass (no_operator_of n) q ≡ true → inside_low n q false v ≡ false → has_number n (set_by q) ≡ true →
      key_of Result q ≡ Result (pos n)
  set_key q v made apart clear has = by (head_of q).code (kids_of q) refl refl has
    where
      set_case : (a b : Rtx) → (head_of q).code ≡ code.Set → kids_of q ≡ a ∷ b ∷ [] → has_number n (changed_at a) ≡ true → key_of Result q ≡ Result (pos n)
      set_case a b is are has =
          let t = two_made q v a b found is are made in
          let within = ap (list_all (all_pass (no_operator_of n))) (sym are) ∙ nodes.within (no_operator_of n) q apart in
          let whole : is_lowpart v ≡ false = ap (λ (h : RtxHead). is_lowpart_code h.code) t.1.1.0 ∙ ap is_lowpart_code is in
          let inside : (inside_low n a false t.0 || (inside_low n b false t.1.0 || false)) ≡ false =
          sym (inside_itself n q false v (ap role_of is) ∙ ap (λ ks. any_inside (map (inside_low n) ks) (false || is_lowpart v) (kids_of v)) are ∙
          ap (λ b'. any_inside (map (inside_low n) (a ∷ b ∷ [])) b' (kids_of v)) whole ∙ ap (any_inside (map (inside_low n) (a ∷ b ∷ [])) false) t.1.1.1.0) ∙ clear in
          key_is Result found n q a b is are (target_is a t.0 found n t.1.1.1.1 has
          (nodes.itself (no_operator_of n) a (and_parts (all_pass (no_operator_of n) a) _ within).0)
          (none_other (inside_low n a false t.0) (inside_low n b false t.1.0 || false) inside).0)

      by : (c : Code) (kids : List Rtx) → (head_of q).code ≡ c → kids_of q ≡ kids → has_number n (set_by_parts c kids) ≡ true → key_of Result q ≡ Result (pos n)
      by code.Set (a ∷ b ∷ []) is are has = set_case a b is are has
      by c kids is are has = absurd (let no : ⊥ = cc in no)

-- ---- of all effects

pub no_outputs : (c : Code) (p : Rtx) (n : ℕ) → (head_of p).code ≡ c → role_of c ≢ Itself → has_number n (flat_map set_by (inputs.effects_by c p (kids_of p))) ≡ false
no_outputs code.Set p n is other = absurd (other refl)
no_outputs code.Parallel p n is other = absurd (other refl)
no_outputs _ p n is other = ap (λ c. has_number n (set_by_parts c (kids_of p) ++ [])) is

module _ (homes : List HomeOf) (layout : Layout) (kind : Kind) (w pattern : Rtx) (found : Ops) (plan : Plan)
    (sound : IsSoundPlan (given homes layout kind w pattern found plan) plan) (symbols : List SymbolAt) (regs : Regs) (m : List MemByte) where
  abbrev KeyOf : Rtx → Option ℕ
  KeyOf = Key homes layout kind w pattern found plan sound symbols regs m

  abbrev RowsOf : List Rtx → List Rtx → List Effect → Type 0
  RowsOf = Rows homes layout kind w pattern found plan sound symbols regs m

  abbrev Result : ℤ → Option ℕ
  Result = result_at homes layout kind w pattern found plan

  abbrev sets_it : ℕ → Rtx → Bool
  sets_it n q = has_number n (set_by q)

  pub last_found : (n k : ℕ) → all_pass (no_operator_of n) pattern ≡ true → Result (pos n) ≡ Some k → (qs vs : List Rtx) (es : List Effect) → RowsOf qs vs es →
      any_inside (map (inside_low n) qs) false vs ≡ false → list_any (sets_it n) qs ≡ true → IsLast (with_keys (map KeyOf qs) es) k
  last_found n k apart at _ _ _ none clear has = absurd (let no : ⊥ = cc in no)
  last_found n k apart at _ _ _ (more q v e qs vs es row rows) clear has =
      let both = none_other (inside_low n q false v) (any_inside (map (inside_low n) qs) false vs) clear in
      elim (or_cases (sets_it n q) (list_any (sets_it n) qs) has) [
        | inl here ↦ last_here (record { key = KeyOf q; effect = e }) (with_keys (map KeyOf qs) es) k
            (set_key Result found n q v row.made (passes_in (no_operator_of n) pattern q row.effect apart) both.0 here ∙ at)
        | inr later ↦ last_later (record { key = KeyOf q; effect = e }) (with_keys (map KeyOf qs) es) k (last_found n k apart at qs vs es rows both.1 later)
      ]

  -- no place in a low part of the instruction is none of an effect
  pub clear_effects : (n : ℕ) (c : Code) → (head_of pattern).code ≡ c → role_of c ≡ Itself → (head_of w).code ≡ c → in_lowpart pattern w n ≡ false →
      any_inside (map (inside_low n) (inputs.effects_by c pattern (kids_of pattern))) false (inputs.effects_by c w (kids_of w)) ≡ false
  clear_effects n code.Parallel is itself is' clear =
      let whole : is_lowpart w ≡ false = ap is_lowpart_code is' in
      sym (inside_itself n pattern false w (ap role_of is) ∙ ap (λ b. any_inside (map (inside_low n) (kids_of pattern)) b (kids_of w)) whole) ∙ clear
  clear_effects n c is itself is' clear = ap (λ b. b || false) clear
