-- The effects of a pattern beside those of the instruction that it matches: each with the tree that the pattern makes before homes are put in.
use Rattle.std.proofs.Common.{◌≡◌, ◌≢◌, ◌⊎◌, inl, inr, ℕ, Bool, true, false, List, [], ◌∷◌, map, Option, Some, None, refl, sym, ap, subst, ◌∙◌}
use Rattle.std.specs.Prelude.{ℤ, pos, slice_get, option_map, option_and_then}
use Rattle.law_operands_fetched.specs.rtx_tree.Operands.{operand_at}
use Rattle.law_operands_fetched.specs.rtx_tree.Tree.{RtxHead, head_of, kids_of, tree_of}
use Rattle.law_operands_fetched.specs.rtx_tree.declared.code.Code.TheVariants as code
use Rattle.law_operands_fetched.specs.rtx_tree.declared.function.Kind.{Kind}
use Rattle.law_operands_fetched.specs.rtx_tree.declared.machine.SymbolAt.{SymbolAt}
use Rattle.law_operands_fetched.specs.rtx_tree.declared.memories.MemByte.{MemByte}
use Rattle.law_operands_fetched.specs.rtx_tree.declared.tree.Rtx.{Rtx}
use Rattle.law_operands_fetched.proofs.rtx_tree.Trees.{head_of-tree, kids_of-tree}
use Rattle.law_operands_fetched.specs.rtl_func.Shapes.{is_shaped}
use Rattle.law_operands_fetched.proofs.rtl_func.AllPass.{all_pass}
use Rattle.law_operands_fetched.specs.sym_insns.Shape.{all_natural}
use Rattle.law_operands_fetched.specs.rtl_step.Effect.{effect_of, effect_by, set_effect}
use Rattle.law_operands_fetched.specs.rtl_step.Regs.{Regs}
use Rattle.law_operands_fetched.specs.rtl_step.declared.effect.Effect.{Effect}
use Rattle.law_operands_fetched.specs.md_match.Pattern.{Ops, role_of, operand_numbered, instantiated}
use Rattle.law_operands_fetched.specs.md_match.declared.role.Role.TheVariants.{Operand}
use Rattle.law_operands_fetched.proofs.md_match.Instantiated.{each_made, made_operand, made_itself}
use Rattle.law_operands_fetched.specs.assign.declared.home.HomeOf.{HomeOf}
use Rattle.law_operands_fetched.specs.assign.declared.places.Layout.{Layout}
use Rattle.law_operands_fetched.specs.reload_homes.Homes.{register_numbered, register_by, register_at, homed}
use Rattle.law_operands_fetched.proofs.reload_homes.Rewrites.{homed_over}
use Rattle.law_operands_fetched.specs.reload_operands.declared.operand.Operand.{Operand as OperandOf}
use Rattle.law_operands_fetched.specs.reload_moves.Registers.{is_result}
use Rattle.law_operands_fetched.specs.reload_moves.declared.part.Part.{Part}
use Rattle.law_operands_fetched.specs.reload_choice.Sound.{IsPart, IsSoundPlan}
use Rattle.law_operands_fetched.specs.reload_choice.declared.given.Plan.{Plan}
use Rattle.law_reload_moves.proofs.Chosen.{given, known_of}
use Rattle.law_operands_fetched.proofs.law_operands_replaced.ElementTurns.{target_key, key_by, key_of}
use Rattle.law_reload_moves.proofs.GivenNews.{result_at}
use Rattle.law_reload_moves.proofs.ResultKeys.{keyed_is, keyed_result}
use Rattle.law_reload_moves.proofs.TakenPlaces.{IsEffectOf}

pub two_made : (q v a b : Rtx) (found : Ops) → (head_of q).code ≡ code.Set → kids_of q ≡ a ∷ b ∷ [] → instantiated q found ≡ Some v →
    (t : Rtx) × ((s : Rtx) × ((head_of v ≡ head_of q) × ((kids_of v ≡ t ∷ s ∷ []) × (instantiated a found ≡ Some t))))
two_made q v a b found is are made = by (instantiated a found) (instantiated b found) refl refl
    (sym (made_itself q found (ap role_of is) ∙ ap (λ ks. option_map (tree_of (head_of q)) (each_made ks found)) are) ∙ made)
  where
    by : (o o' : Option Rtx) → instantiated a found ≡ o → instantiated b found ≡ o' →
        option_map (tree_of (head_of q)) (option_and_then (λ x. option_map (λ xs. x ∷ xs)
        (option_and_then (λ x. option_map (λ xs. x ∷ xs) (Some [])) (instantiated b found)))
        (instantiated a found)) ≡ Some v →
        (t : Rtx) × ((s : Rtx) × ((head_of v ≡ head_of q) × ((kids_of v ≡ t ∷ s ∷ []) × (instantiated a found ≡ Some t))))
    by None o' first second at = absurd (let e : ◌≡◌ {A = Option Rtx} None (Some v) = sym (ap (λ o.
        option_map (tree_of (head_of q)) (option_and_then (λ x. option_map (λ xs. x ∷ xs)
        (option_and_then (λ x. option_map (λ xs. x ∷ xs) (Some [])) (instantiated b found))) o)) first) ∙ at in
        let no : ⊥ = cc in no)
    by (Some t) None first second at = absurd (let e : ◌≡◌ {A = Option Rtx} None (Some v) = sym (ap (λ o.
        option_map (tree_of (head_of q)) (option_and_then (λ x. option_map (λ xs. x ∷ xs)
        (option_and_then (λ x. option_map (λ xs. x ∷ xs) (Some [])) (instantiated b found))) o)) first ∙
        ap (λ o. option_map (tree_of (head_of q)) (option_map (λ xs. t ∷ xs)
        (option_and_then (λ x. option_map (λ xs. x ∷ xs) (Some [])) o))) second) ∙ at in
        let no : ⊥ = cc in no)
    by (Some t) (Some s) first second at =
        let e : Some (tree_of (head_of q) (t ∷ s ∷ [])) ≡ Some v = sym (ap (λ o.
        option_map (tree_of (head_of q)) (option_and_then (λ x. option_map (λ xs. x ∷ xs)
        (option_and_then (λ x. option_map (λ xs. x ∷ xs) (Some [])) (instantiated b found))) o)) first ∙
        ap (λ o. option_map (tree_of (head_of q)) (option_map (λ xs. t ∷ xs)
        (option_and_then (λ x. option_map (λ xs. x ∷ xs) (Some [])) o))) second) ∙ at in
        let same : tree_of (head_of q) (t ∷ s ∷ []) ≡ v = cc in (
          t,
          (
            s,
            (
              ap head_of (sym same) ∙ head_of-tree (head_of q) (t ∷ s ∷ []),
              (
                ap kids_of (sym same) ∙
                    kids_of-tree (head_of q) (t ∷ s ∷ []),
                first,
              ),
            ),
          ),
        )

module _ (homes : List HomeOf) (layout : Layout) (kind : Kind) (w pattern : Rtx) (found : Ops) (plan : Plan)
    (sound : IsSoundPlan (given homes layout kind w pattern found plan) plan) (symbols : List SymbolAt) (regs : Regs)
    (m : List MemByte) where
  abbrev hm : Rtx → Rtx
  hm = homed homes layout

  abbrev Result : ℤ → Option ℕ
  Result = result_at homes layout kind w pattern found plan

  abbrev pub Key : Rtx → Option ℕ
  Key = key_of (result_at homes layout kind w pattern found plan)

  -- an effect of the pattern, what it makes, and what that does once homes are put in
  pub record Row (q v : Rtx) (e : Effect) : Type 0 where
    pub made : instantiated q found ≡ Some v
    pub effect : IsEffectOf pattern q
    pub does : effect_of symbols regs m (hm v) ≡ Some e
    pub shaped : all_pass is_shaped v ≡ true
    pub natural : all_natural v ≡ true

  pub data Rows : List Rtx → List Rtx → List Effect → Type 0 where
    none : Rows [] [] []
    more : (q v : Rtx) (e : Effect) (qs vs : List Rtx) (es : List Effect) → Row q v e → Rows qs vs es → Rows (q ∷ qs) (v ∷ vs) (e ∷ es)

  -- ---- a set, with homes put in

  set_whole : (v : Rtx) → (head_of v).code ≡ code.Set → register_at v ≡ None
  set_whole v is = ap (λ c. register_by c v (kids_of v)) is ∙ ap (λ c. register_numbered c (head_of v).number) is

  pub set_homed : (v t s : Rtx) → (head_of v).code ≡ code.Set → kids_of v ≡ t ∷ s ∷ [] →
      ((head_of (hm v)).code ≡ code.Set) × (kids_of (hm v) ≡ hm t ∷ hm s ∷ [])
  set_homed v t s is are =
      let e = homed_over homes layout v (set_whole v is) in (
        ap (λ (x : Rtx). (head_of x).code) e ∙ ap (λ (h : RtxHead). h.code) (head_of-tree (head_of v) (map hm (kids_of v))) ∙ is,
        ap kids_of e ∙ kids_of-tree (head_of v) (map hm (kids_of v)) ∙ ap (map hm) are,
      )

  pub set_does : (x t s : Rtx) → (head_of x).code ≡ code.Set → kids_of x ≡ t ∷ s ∷ [] →
      effect_of symbols regs m x ≡ set_effect symbols regs m t s
  set_does x t s is are = ap (λ c. effect_by c (kids_of x) symbols regs m) is ∙ ap (λ ks. effect_by code.Set ks symbols regs m) are

  -- ---- one that has a key

  pub record IsKeyedRow (v : Rtx) (e : Effect) (k : ℕ) : Type 0 where
    pub t : Rtx
    pub s : Rtx
    pub p : Part
    pub x : OperandOf
    pub part : IsPart (given homes layout kind w pattern found plan) plan k p x
    pub result : is_result p ≡ true
    pub at : result_at homes layout kind w pattern found plan (pos x.number) ≡ Some k
    pub is_set : (head_of v).code ≡ code.Set
    pub are : kids_of v ≡ t ∷ s ∷ []
    pub found_is : operand_at found x.number ≡ Some t
    pub tree_is : x.tree ≡ hm t
    pub does : set_effect symbols regs m x.tree (hm s) ≡ Some e

  pub keyed_row : (q v : Rtx) (e : Effect) (k : ℕ) → Row q v e → Key q ≡ Some k → IsKeyedRow v e k
  keyed_row q v e k row key =
      let i = keyed_is homes layout kind w pattern found plan sound q k key in
      let r = keyed_result homes layout kind w pattern found plan sound q k row.effect key in
      let o = known_of homes layout kind w pattern found plan i.moved.p.place i.moved.x i.moved.of in
      let made = two_made q v i.a i.b found i.is_set i.are row.made in
      let t_is : operand_at found i.moved.x.number ≡ Some made.0 = ap (operand_at found) i.moved.number_is ∙
      sym (ap (operand_numbered found) i.number_is) ∙ sym (made_operand i.a found i.operand) ∙ made.1.1.1.1 in
      let same : o.was ≡ made.0 = (let both : Some o.was ≡ Some made.0 = sym o.found_is ∙ t_is in cc) in
      let set_is : (head_of v).code ≡ code.Set = ap (λ (h : RtxHead). h.code) made.1.1.0 ∙ i.is_set in
      let x_is = set_homed v made.0 made.1.0 set_is made.1.1.1.0 in
      let tree : i.moved.x.tree ≡ hm made.0 = o.tree_is ∙ ap hm same in
      let here : slice_get plan.parts k ≡ Some i.moved.p =
      ap (slice_get plan.parts) (sym i.moved.place_is ∙ sound.in_order i.moved.at i.moved.p i.moved.stands) ∙ i.moved.stands in
      let p_is : r.p ≡ i.moved.p = (let both : Some r.p ≡ Some i.moved.p = sym r.stands ∙ here in cc) in record {
        t = made.0;
        s = made.1.0;
        p = i.moved.p;
        x = i.moved.x;
        part = record { stands = here; of = i.moved.of };
        result = ap is_result (sym p_is) ∙ r.is;
        at = ap (λ n. Result (pos n)) i.moved.number_is ∙ sym (ap (λ c. key_by Result c (kids_of q)) i.is_set ∙ ap (key_by Result code.Set) i.are ∙
            ap (λ r. target_key Result r (head_of i.a).number) i.operand ∙ ap (target_key Result Operand) i.number_is) ∙ key;
        is_set = set_is;
        are = made.1.1.1.0;
        found_is = t_is;
        tree_is = tree;
        does = ap (λ t. set_effect symbols regs m t (hm made.1.0)) tree ∙
            sym (set_does (hm v) (hm made.0) (hm made.1.0) x_is.0 x_is.1) ∙ row.does;
      }
