-- Each input of a plain instruction that has its effects has a value, or stands in a low part.
use Rattle.std.proofs.Common.{◌≡◌, ◌≢◌, ◌⊎◌, inl, inr, ℕ, ◌||◌, Bool, true, false, List, [], ◌∷◌, length, map, Option, Some, None, refl, sym, ap, subst, ◌∙◌, arith}
use Rattle.std.proofs.lemmas.Bool.{and_parts, or_cases}
use Rattle.std.specs.List.{list_all, list_any}
use Rattle.std.specs.Prelude.{ℤ, pos, option_map, option_and_then}
use Rattle.law_operands_fetched.specs.rtx_tree.Tree.{RtxHead, head_of, kids_of}
use Rattle.law_operands_fetched.specs.rtx_tree.declared.code.Code.{Code}
use Rattle.law_operands_fetched.specs.rtx_tree.declared.code.Code.TheVariants as code
use Rattle.law_operands_fetched.specs.rtx_tree.declared.machine.SymbolAt.{SymbolAt}
use Rattle.law_operands_fetched.specs.rtx_tree.declared.memories.MemByte.{MemByte}
use Rattle.law_operands_fetched.specs.rtx_tree.declared.tree.Rtx.{Rtx}
use Rattle.law_operands_fetched.specs.rtl_func.Shapes.{is_effect, is_shaped}
use Rattle.law_operands_fetched.proofs.rtl_func.AllPass as nodes
use Rattle.law_operands_fetched.proofs.rtl_func.AllPass.{all_pass}
use Rattle.law_operands_fetched.specs.rtl_step.Effect.{effect_of, all_effects, one_effect, effects_of, effects_by}
use Rattle.law_operands_fetched.specs.rtl_step.Regs.{Regs}
use Rattle.law_operands_fetched.specs.rtl_step.declared.effect.Effect.{Effect}
use Rattle.law_operands_fetched.specs.md_constr.Inputs.{taken_by}
use Rattle.law_operands_fetched.specs.md_constr.Inputs as inputs
use Rattle.law_operands_fetched.specs.md_match.Pattern.{Ops, role_of}
use Rattle.law_operands_fetched.specs.md_match.declared.role.Role.TheVariants.{Operand, Itself}
use Rattle.law_operands_fetched.specs.assign.declared.home.HomeOf.{HomeOf}
use Rattle.law_operands_fetched.specs.assign.declared.places.Layout.{Layout}
use Rattle.law_operands_fetched.specs.reload_homes.Homes.{homed}
use Rattle.law_operands_fetched.specs.reload_operands.Directions.{has_number, is_input}
use Rattle.law_operands_fetched.proofs.reload_operands.NumberLaws.{has_in_each}
use Rattle.law_operands_fetched.specs.law_operands_replaced.Places.{AtOnePlace, first, later}
use Rattle.law_reload_moves.proofs.Besides.{no_place, beside_head, part_beside}
use Rattle.law_reload_moves.proofs.ElementValues.{IsValued, taken_role, element_valued}
use Rattle.law_reload_moves.proofs.InputPlaces.{found_at}
use Rattle.law_reload_moves.proofs.Matched.{IsLow}
use Rattle.law_operands_fetched.proofs.law_operands_replaced.NewTrees.{is_whole}
use Rattle.law_reload_moves.proofs.TakenThere.{IsAt, part_at}
use Rattle.law_operands_fetched.proofs.law_operands_replaced.WholeTurns.{is_parallel, front_is, alone_is, effects_exist}

-- the effect of one of some elements
pub effect_there : (symbols : List SymbolAt) (regs : Regs) (m : List MemByte) (ps xs : List Rtx) (q x : Rtx) (es : List Effect) → AtOnePlace ps xs q x →
    all_effects symbols regs m xs ≡ Some es → (e : Effect) × (effect_of symbols regs m x ≡ Some e)
effect_there symbols regs m _ _ _ _ es (first p x ps xs) does =
    let f = front_is (effect_of symbols regs m x) (all_effects symbols regs m xs) es does in (f.0, f.1.1.0)
effect_there symbols regs m _ _ _ _ es (later p x q y ps xs more) does =
    let f = front_is (effect_of symbols regs m y) (all_effects symbols regs m xs) es does in
    effect_there symbols regs m ps xs p x f.1.0 more f.1.1.1

each_pass : (test : Rtx → Bool) (ps xs : List Rtx) (q x : Rtx) → AtOnePlace ps xs q x → list_all (all_pass test) xs ≡ true → all_pass test x ≡ true
each_pass test _ _ _ _ (first p x ps xs) all = (and_parts (all_pass test x) _ all).0
each_pass test _ _ _ _ (later p x q y ps xs more) all = each_pass test ps xs p x more (and_parts (all_pass test y) _ all).1

pub pattern_parallel : (p : Rtx) → (head_of p).code ≡ code.Parallel → inputs.effects_of p ≡ kids_of p
pattern_parallel p is = ap (λ c. inputs.effects_by c p (kids_of p)) is

pub pattern_other : (p : Rtx) → (head_of p).code ≢ code.Parallel → inputs.effects_of p ≡ p ∷ []
pattern_other p other = by (head_of p).code other
  where
    by : (c : Code) → c ≢ code.Parallel → inputs.effects_by c p (kids_of p) ≡ p ∷ []
    by code.Parallel other = absurd (other refl)
    by _ other = refl

module _ (homes : List HomeOf) (layout : Layout) (found : Ops) (symbols : List SymbolAt) (regs : Regs) (m : List MemByte) (pattern w : Rtx)
    (is : IsAt homes layout found pattern w (homed homes layout w)) (shaped : all_pass is_shaped (homed homes layout w) ≡ true)
    (whole : all_pass is_whole (homed homes layout w) ≡ true) where
  abbrev x : Rtx
  x = homed homes layout w

  abbrev pub Valued : ℕ → Type 0
  Valued k = IsValued homes layout found symbols regs m k ⊎ IsLow homes layout found pattern w (pos k)

  takes : ℕ → Rtx → Bool
  takes k q = has_number k (taken_by q)

  only : (b : Bool) → (b || false) ≡ true → b ≡ true
  only true is = refl
  only false is = is

  parallel_valued : (es : List Effect) (k : ℕ) → (head_of pattern).code ≡ code.Parallel → is_effect x ≡ true → effects_of symbols regs m x ≡ Some es →
      is_input pattern k ≡ true → Valued k
  unfolding takes
  parallel_valued es k is_parallel effect does input =
      let role : role_of (head_of pattern).code ≡ Itself = ap role_of is_parallel in
      let differ : role_of (head_of pattern).code ≢ Operand = λ o. let no : Itself ≡ Operand = sym role ∙ o in let never : ⊥ = cc in never in
      let h = beside_head homes layout found pattern w x is.made is.tree_is role effect in
      let x_is : (head_of x).code ≡ code.Parallel = ap (λ (h : RtxHead). h.code) h.0 ∙ is_parallel in
      let all : all_effects symbols regs m (kids_of x) ≡ Some es = sym (ap (λ c. effects_by c x symbols regs m) x_is) ∙ does in
      let any : list_any (takes k) (kids_of pattern) ≡ true =
      sym (ap (list_any (takes k)) (pattern_parallel pattern is_parallel)) ∙ sym (has_in_each k taken_by (inputs.effects_of pattern)) ∙ input in
      let f = found_at (takes k) (kids_of pattern) (kids_of x) h.1 any in
      let none = no_place homes layout found w effect in
      let b = part_beside homes layout found pattern w x f.p f.x is.made is.tree_is is.shaped differ none f.at in
      let e = effect_there symbols regs m (kids_of pattern) (kids_of x) f.p f.x es f.at all in
      elim (element_valued homes layout found symbols regs m f.p b.was f.x e.0 k (part_at homes layout found pattern w x f.p f.x is differ none f.at)
      (each_pass is_shaped (kids_of pattern) (kids_of x) f.p f.x f.at (nodes.within is_shaped x shaped))
      (each_pass is_whole (kids_of pattern) (kids_of x) f.p f.x f.at (nodes.within is_whole x whole)) e.1 f.is) [
        | inl valued ↦ inl valued
        | inr low ↦ inr (b.lows (pos k) low)
      ]

  alone_valued : (es : List Effect) (k : ℕ) → (head_of pattern).code ≢ code.Parallel → is_effect x ≡ true → effects_of symbols regs m x ≡ Some es →
      is_input pattern k ≡ true → Valued k
  unfolding takes
  alone_valued es k not_one effect does input =
      let any : list_any (takes k) (pattern ∷ []) ≡ true =
      sym (ap (list_any (takes k)) (pattern_other pattern not_one)) ∙ sym (has_in_each k taken_by (inputs.effects_of pattern)) ∙ input in
      let mine : has_number k (taken_by pattern) ≡ true = only (takes k pattern) any in
      let role = taken_role k (head_of pattern).code pattern (kids_of pattern) mine in
      let h = beside_head homes layout found pattern w x is.made is.tree_is role effect in
      let x_not : (head_of x).code ≢ code.Parallel = λ same. not_one (ap (λ (h : RtxHead). h.code) (sym h.0) ∙ same) in
      let e = alone_is (effect_of symbols regs m x) es (sym (one_is (head_of x).code x_not) ∙ does) in
      element_valued homes layout found symbols regs m pattern w x e.0 k is shaped whole e.1 mine
    where
      one_is : (c : Code) → c ≢ code.Parallel → effects_by c x symbols regs m ≡ one_effect symbols regs m x
      one_is code.Parallel other = absurd (other refl)
      one_is _ other = refl

  -- what a plain instruction takes has a value
  pub plain_valued : (es : List Effect) (k : ℕ) → effects_of symbols regs m x ≡ Some es → is_input pattern k ≡ true → Valued k
  plain_valued es k does input =
      let effect = effects_exist symbols regs m x es does in
      elim (is_parallel (head_of pattern).code) [
        | inl one ↦ parallel_valued es k one effect does input
        | inr not_one ↦ alone_valued es k not_one effect does input
      ]
