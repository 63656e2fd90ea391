-- The effects of a pattern beside those of an instruction with homes put in, all of them in order.
use Rattle.std.proofs.Common.{◌≡◌, ◌≢◌, ◌⊎◌, inl, inr, ℕ, not, Bool, true, false, List, [], ◌∷◌, map, Option, Some, None, refl, sym, ap, subst, ◌∙◌}
use Rattle.std.proofs.lemmas.Bool.{and_parts, or_left, or_right}
use Rattle.std.specs.List.{list_all, list_any}
use Rattle.std.specs.Prelude.{option_map, option_and_then}
use Rattle.law_operands_fetched.specs.rtx_tree.Code.{class_of_code, is_effect_class}
use Rattle.law_operands_fetched.specs.rtx_tree.Tree.{RtxHead, head_of, kids_of, tree_of}
use Rattle.law_operands_fetched.specs.rtx_tree.declared.code.Code.{Code}
use Rattle.law_operands_fetched.specs.rtx_tree.declared.code.Code.TheVariants as code
use Rattle.law_operands_fetched.specs.rtx_tree.declared.function.Kind.{Kind}
use Rattle.law_operands_fetched.specs.rtx_tree.declared.machine.SymbolAt.{SymbolAt}
use Rattle.law_operands_fetched.specs.rtx_tree.declared.memories.MemByte.{MemByte}
use Rattle.law_operands_fetched.specs.rtx_tree.declared.tree.Rtx.{Rtx}
use Rattle.law_operands_fetched.proofs.rtx_tree.Trees.{head_of-tree, kids_of-tree}
use Rattle.law_operands_fetched.specs.rtl_func.Effects.{changed_register, parallels_change_once}
use Rattle.law_operands_fetched.specs.rtl_func.Shapes.{is_effect, is_shaped}
use Rattle.law_operands_fetched.proofs.rtl_func.AllPass as nodes
use Rattle.law_operands_fetched.proofs.rtl_func.AllPass.{all_pass}
use Rattle.law_operands_fetched.specs.rtl_step.Effect.{effect_of, all_effects, one_effect, effects_of, effects_by}
use Rattle.law_operands_fetched.specs.rtl_step.Regs.{Regs}
use Rattle.law_operands_fetched.specs.rtl_step.declared.effect.Effect.{Effect}
use Rattle.law_operands_fetched.specs.sym_insns.Shape.{all_natural}
use Rattle.law_operands_fetched.proofs.law_frame.law_window_replaced.Trees.{natural_kids}
use Rattle.law_operands_fetched.specs.md_constr.Inputs as inputs
use Rattle.law_operands_fetched.specs.md_match.Pattern.{Ops, role_of, instantiated}
use Rattle.law_operands_fetched.specs.md_match.declared.role.Role.TheVariants.{Itself}
use Rattle.law_operands_fetched.proofs.md_match.Instantiated.{each_made, made_itself}
use Rattle.law_operands_fetched.specs.assign.declared.home.HomeOf.{HomeOf}
use Rattle.law_operands_fetched.specs.assign.declared.places.Layout.{Layout}
use Rattle.law_operands_fetched.specs.reload_homes.Homes.{register_numbered, register_by, register_at, homed}
use Rattle.law_operands_fetched.proofs.reload_homes.Rewrites.{homed_over}
use Rattle.law_operands_fetched.specs.reload_choice.Sound.{IsSoundPlan}
use Rattle.law_operands_fetched.specs.reload_choice.declared.given.Plan.{Plan}
use Rattle.law_reload_moves.proofs.AllOrderly.{AllDiffer, parallel_differs}
use Rattle.law_reload_moves.proofs.Chosen.{given}
use Rattle.law_reload_moves.proofs.ResultRows.{Row, Rows, none, more}
use Rattle.law_operands_fetched.proofs.law_operands_replaced.WholeTurns.{is_parallel}

-- ---- an effect has no register in itself

pub effect_none : (c : Code) (x : Rtx) → (head_of x).code ≡ c → is_effect_class (class_of_code c) ≡ true → register_at x ≡ None
effect_none code.Reg x is effect = absurd (let no : ⊥ = cc in no)
effect_none code.Subreg x is effect = absurd (let no : ⊥ = cc in no)
effect_none _ x is effect = ap (λ c. register_by c x (kids_of x)) is ∙ ap (λ c. register_numbered c (head_of x).number) is

-- the first of what patterns make, and the others
pub made_front : (o : Option Rtx) (rest : Option (List Rtx)) (vs : List Rtx) → option_and_then (λ x. option_map (λ xs. x ∷ xs) rest) o ≡ Some vs →
    (v : Rtx) × ((later : List Rtx) × ((vs ≡ v ∷ later) × ((o ≡ Some v) × (rest ≡ Some later))))
made_front None rest vs is = absurd (let no : ⊥ = cc in no)
made_front (Some v) None vs is = absurd (let no : ⊥ = cc in no)
made_front (Some v) (Some later) vs is = (v, (later, ((let same : v ∷ later ≡ vs = cc in sym same), (refl, refl))))

pub effects_front : (o : Option Effect) (rest : Option (List Effect)) (es : List Effect) → option_and_then (λ e. option_map (λ es. e ∷ es) rest) o ≡ Some es →
    (e : Effect) × ((later : List Effect) × ((es ≡ e ∷ later) × ((o ≡ Some e) × (rest ≡ Some later))))
effects_front None rest es is = absurd (let no : ⊥ = cc in no)
effects_front (Some e) None es is = absurd (let no : ⊥ = cc in no)
effects_front (Some e) (Some later) es is = (e, (later, ((let same : e ∷ later ≡ es = cc in sym same), (refl, refl))))

pub alone_front : (o : Option Effect) (es : List Effect) → option_map (λ (e : Effect). e ∷ []) o ≡ Some es → (e : Effect) × ((es ≡ e ∷ []) × (o ≡ Some e))
alone_front None es is = absurd (let no : ⊥ = cc in no)
alone_front (Some e) es is = (e, ((let same : e ∷ [] ≡ es = cc in sym same), refl))

-- what a pattern that stands for itself makes
pub made_over : (p w : Rtx) (found : Ops) → role_of (head_of p).code ≡ Itself → instantiated p found ≡ Some w →
    (vs : List Rtx) × ((each_made (kids_of p) found ≡ Some vs) × ((head_of w ≡ head_of p) × (kids_of w ≡ vs)))
made_over p w found is made = by (each_made (kids_of p) found) refl (sym (made_itself p found is) ∙ made)
  where
    by : (o : Option (List Rtx)) → each_made (kids_of p) found ≡ o → option_map (tree_of (head_of p)) o ≡ Some w →
        (vs : List Rtx) × ((each_made (kids_of p) found ≡ Some vs) × ((head_of w ≡ head_of p) × (kids_of w ≡ vs)))
    by None here at = absurd (let no : ⊥ = cc in no)
    by (Some vs) here at =
        let same : tree_of (head_of p) vs ≡ w = cc in
        (vs, (here, (ap head_of (sym same) ∙ head_of-tree (head_of p) vs, ap kids_of (sym same) ∙ kids_of-tree (head_of p) vs)))

pub once_of : (b : Bool) → not b ≡ false → b ≡ true
once_of true is = refl
once_of false is = absurd (let no : ⊥ = cc in no)

module _ (homes : List HomeOf) (layout : Layout) (kind : Kind) (w pattern : Rtx) (found : Ops) (plan : Plan)
    (sound : IsSoundPlan (given homes layout kind w pattern found plan) plan) (symbols : List SymbolAt) (regs : Regs) (m : List MemByte) where
  abbrev hm : Rtx → Rtx
  hm = homed homes layout

  abbrev RowsOf : List Rtx → List Rtx → List Effect → Type 0
  RowsOf = Rows homes layout kind w pattern found plan sound symbols regs m

  rows_of : (qs vs : List Rtx) (es : List Effect) → ((test : Rtx → Bool) → list_any test qs ≡ true → list_any test (inputs.effects_of pattern) ≡ true) →
      each_made qs found ≡ Some vs → all_effects symbols regs m (map hm vs) ≡ Some es → list_all (all_pass is_shaped) vs ≡ true → list_all all_natural vs ≡ true →
      RowsOf qs vs es
  rows_of [] [] es among made does shaped natural =
      let same : [] ≡ es = cc in subst (RowsOf [] []) same none
  rows_of [] (v ∷ vs) es among made does shaped natural = absurd (let e : ◌≡◌ {A = Option (List Rtx)} (Some []) (Some (v ∷ vs)) = made in let no : ⊥ = cc in no)
  rows_of (q ∷ qs) vs es among made does shaped natural =
      let f = made_front (instantiated q found) (each_made qs found) vs made in
      let g = effects_front (effect_of symbols regs m (hm f.0)) (all_effects symbols regs m (map hm f.1.0)) es
      (ap (λ vs. all_effects symbols regs m (map hm vs)) (sym f.1.1.0) ∙ does) in
      let s = and_parts (all_pass is_shaped f.0) (list_all (all_pass is_shaped) f.1.0) (ap (list_all (all_pass is_shaped)) (sym f.1.1.0) ∙ shaped) in
      let n = and_parts (all_natural f.0) (list_all all_natural f.1.0) (ap (list_all all_natural) (sym f.1.1.0) ∙ natural) in
      subst (λ vs. RowsOf (q ∷ qs) vs es) (sym f.1.1.0) (subst (RowsOf (q ∷ qs) (f.0 ∷ f.1.0)) (sym g.1.1.0)
      (more q f.0 g.0 qs f.1.0 g.1.0
      (record { made = f.1.1.1.0; effect = λ test is. among test (or_left (test q) (list_any test qs) is); does = g.1.1.1.0; shaped = s.0; natural = n.0 })
      (rows_of qs f.1.0 g.1.0 (λ test is. among test (or_right (test q) (list_any test qs) is)) f.1.1.1.1 g.1.1.1.1 s.1 n.1)))

  -- all of them
  pub record AllRows (es : List Effect) : Type 0 where
    pub rows : RowsOf (inputs.effects_of pattern) (inputs.effects_of w) es
    pub before : parallels_change_once w ≡ true → AllDiffer changed_register (inputs.effects_of w)
    pub after : parallels_change_once (hm w) ≡ true → AllDiffer changed_register (map hm (inputs.effects_of w))

  parallel_list : (p : Rtx) → (head_of p).code ≡ code.Parallel → inputs.effects_of p ≡ kids_of p
  parallel_list p is = ap (λ c. inputs.effects_by c p (kids_of p)) is

  other_list : (c : Code) (p : Rtx) → (head_of p).code ≡ c → c ≢ code.Parallel → inputs.effects_of p ≡ p ∷ []
  other_list code.Parallel p is other' = absurd (other' refl)
  other_list _ p is other' = ap (λ c. inputs.effects_by c p (kids_of p)) is

  other_effects : (c : Code) (x : Rtx) → (head_of x).code ≡ c → c ≢ code.Parallel → effects_of symbols regs m x ≡ one_effect symbols regs m x
  other_effects code.Parallel x is other' = absurd (other' refl)
  other_effects _ x is other' = ap (λ c. effects_by c x symbols regs m) is

  pub all_rows : (es : List Effect) → role_of (head_of pattern).code ≡ Itself → instantiated pattern found ≡ Some w → is_effect w ≡ true →
      all_pass is_shaped w ≡ true → all_natural w ≡ true → effects_of symbols regs m (hm w) ≡ Some es → AllRows es
  all_rows es role made effect shaped natural does =
      elim (is_parallel (head_of pattern).code) [
        | inl is ↦ parallel is
        | inr not_one ↦ single not_one
      ]
    where
      k : (vs : List Rtx) × ((each_made (kids_of pattern) found ≡ Some vs) × ((head_of w ≡ head_of pattern) × (kids_of w ≡ vs)))
      k = made_over pattern w found role made

      code_is : (head_of w).code ≡ (head_of pattern).code
      code_is = ap (λ (h : RtxHead). h.code) k.1.1.0

      over : hm w ≡ tree_of (head_of w) (map hm (kids_of w))
      over = homed_over homes layout w (effect_none (head_of w).code w refl effect)

      code_there : (head_of (hm w)).code ≡ (head_of w).code
      code_there = ap (λ (x : Rtx). (head_of x).code) over ∙ ap (λ (h : RtxHead). h.code) (head_of-tree (head_of w) (map hm (kids_of w)))

      kids_are : kids_of (hm w) ≡ map hm (kids_of w)
      kids_are = ap kids_of over ∙ kids_of-tree (head_of w) (map hm (kids_of w))

      parallel : (head_of pattern).code ≡ code.Parallel → AllRows es
      parallel is =
          let w_is = code_is ∙ is in
          let here = code_there ∙ w_is in
          let does' : all_effects symbols regs m (map hm (kids_of w)) ≡ Some es = ap (all_effects symbols regs m) (sym kids_are) ∙
          sym (ap (λ c. effects_by c (hm w) symbols regs m) here) ∙ does in record {
            rows = subst (λ qs. RowsOf qs (inputs.effects_of w) es) (sym (parallel_list pattern is))
                (subst (λ vs. RowsOf (kids_of pattern) vs es) (sym (parallel_list w w_is))
                (rows_of (kids_of pattern) (kids_of w) es (λ test among. ap (list_any test) (parallel_list pattern is) ∙ among)
                (k.1.0 ∙ ap Some (sym k.1.1.1)) does' (nodes.within is_shaped w shaped) (natural_kids w natural)));
            before = λ once. subst (AllDiffer changed_register) (sym (parallel_list w w_is)) (parallel_differs w w_is once);
            after = λ once. subst (AllDiffer changed_register) (sym (ap (map hm) (parallel_list w w_is)))
                (subst (AllDiffer changed_register) kids_are (parallel_differs (hm w) here once));
          }

      single : (head_of pattern).code ≢ code.Parallel → AllRows es
      single not_one =
          let w_not : (head_of w).code ≢ code.Parallel = λ e. not_one (sym code_is ∙ e) in
          let there_not : (head_of (hm w)).code ≢ code.Parallel = λ e. w_not (sym code_there ∙ e) in
          let q_list = other_list (head_of pattern).code pattern refl not_one in
          let w_list = other_list (head_of w).code w refl w_not in
          let f = alone_front (effect_of symbols regs m (hm w)) es (sym (other_effects (head_of (hm w)).code (hm w) refl there_not) ∙ does) in record {
            rows = subst (λ qs. RowsOf qs (inputs.effects_of w) es) (sym q_list) (subst (λ vs. RowsOf (pattern ∷ []) vs es) (sym w_list)
                (subst (RowsOf (pattern ∷ []) (w ∷ [])) (sym f.1.0)
                (more pattern w f.0 [] [] [] (record {
                  made = made;
                  effect = λ test is. ap (list_any test) q_list ∙ or_left (test pattern) false is;
                  does = f.1.1;
                  shaped = shaped;
                  natural = natural;
                }) none)));
            before = λ once. subst (AllDiffer changed_register) (sym w_list) (tt, tt);
            after = λ once. subst (AllDiffer changed_register) (sym (ap (map hm) w_list)) (tt, tt);
          }
