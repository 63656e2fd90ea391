-- Each input of a jump that goes some way has a value, or stands in a low part.
use Rattle.std.proofs.Common.{◌≡◌, ◌≢◌, ◌⊎◌, inl, inr, ℕ, ◌&&◌, ◌||◌, not, Bool, true, false, List, [], ◌∷◌, ◌++◌, length, map, Option, Some, None, refl, sym, ap, subst, ◌∙◌, arith}
use Rattle.std.proofs.lemmas.Bool.{and_parts, or_cases}
use Rattle.std.specs.List.{flat_map, list_all, list_any}
use Rattle.std.specs.Prelude.{ℤ, pos}
use Rattle.law_operands_fetched.specs.bits64.declared.Width.TheVariants.{W64}
use Rattle.law_operands_fetched.proofs.rtx_tree.Trees.{head_of-tree, kids_of-tree}
use Rattle.law_operands_fetched.specs.rtx_tree.Code.{class_of_code, is_effect_class}
use Rattle.law_operands_fetched.specs.rtx_tree.Operands.{put_at}
use Rattle.law_operands_fetched.specs.rtx_tree.Patterns.{is_pc}
use Rattle.law_operands_fetched.specs.rtx_tree.Tree.{RtxHead, head_of, kids_of, reg_of}
use Rattle.law_operands_fetched.specs.rtx_tree.declared.class.Class.{Class}
use Rattle.law_operands_fetched.specs.rtx_tree.declared.class.Class.TheVariants as class
use Rattle.law_operands_fetched.specs.rtx_tree.declared.code.Code.TheVariants as code
use Rattle.law_operands_fetched.specs.rtx_tree.declared.code.Mode.{Mode}
use Rattle.law_operands_fetched.specs.rtx_tree.declared.machine.SymbolAt.{SymbolAt}
use Rattle.law_operands_fetched.specs.rtx_tree.declared.memories.MemByte.{MemByte}
use Rattle.law_operands_fetched.specs.rtx_tree.declared.tree.Rtx.{Rtx}
use Rattle.law_operands_fetched.specs.rtl_func.Kinds.{is_jump_by, is_jump_tree}
use Rattle.law_operands_fetched.specs.rtl_func.Shapes.{class_at, is_constant, is_constant_class, is_label_class, is_counter_class, is_comparison_class, is_jump_source_class, is_effect, is_shaped}
use Rattle.law_operands_fetched.proofs.rtl_func.AllPass as nodes
use Rattle.law_operands_fetched.proofs.rtl_func.AllPass.{all_pass}
use Rattle.law_operands_fetched.specs.rtl_step.Jump.{way_of, jump_of}
use Rattle.law_operands_fetched.specs.rtl_step.Regs.{Regs}
use Rattle.law_operands_fetched.specs.rtl_step.Value.{value_of}
use Rattle.law_operands_fetched.specs.rtl_step.declared.jump.Way.{Way}
use Rattle.law_operands_fetched.specs.md_constr.Inputs.{operand_here, taken_in, taken_at, taken_by_parts, taken_by}
use Rattle.law_operands_fetched.specs.md_constr.Inputs as inputs
use Rattle.law_operands_fetched.specs.md_match.Pattern.{Ops, role_of}
use Rattle.law_operands_fetched.specs.md_match.declared.role.Role.TheVariants.{Operand, Itself}
use Rattle.law_operands_fetched.specs.assign.declared.home.HomeOf.{HomeOf}
use Rattle.law_operands_fetched.specs.assign.declared.places.Layout.{Layout}
use Rattle.law_operands_fetched.specs.reload_homes.Homes.{homed}
use Rattle.law_operands_fetched.specs.reload_operands.Directions.{has_number, is_input}
use Rattle.law_operands_fetched.specs.reload_operands.Put.{put, parts_by}
use Rattle.law_operands_fetched.proofs.reload_operands.NumberLaws.{has_in_both, has_in_each, takes_out}
use Rattle.law_operands_fetched.specs.law_operands_replaced.Places.{AtOnePlace, first, later, At, here, inside, is_leaf, is_leaf_as}
use Rattle.law_reload_moves.proofs.Besides.{no_place, beside_head, part_beside}
use Rattle.law_reload_moves.proofs.ElementValues.{IsValued, taken_role, low_nothing, is_subreg, not_low, none_at, one_at}
use Rattle.law_reload_moves.proofs.GivenBeside.{first_of, second_of}
use Rattle.law_reload_moves.proofs.InputPlaces.{StandsThere, no_operator_of, is_operator_of, at_pass, empty}
use Rattle.law_reload_moves.proofs.InputValues.{pattern_other}
use Rattle.law_operands_fetched.proofs.law_operands_replaced.JumpTrees.{put_alone, IsJump, returns, sets, IsSource, label, choice, jump_is, source_is, is_bare_class, bare_kids, pc_class, set_source, label_constant, label_kids, choice_parts, no_register}
use Rattle.law_operands_fetched.proofs.law_operands_replaced.Jumping.{comparison_any}
use Rattle.law_reload_moves.proofs.Matched.{IsLow}
use Rattle.law_operands_fetched.proofs.law_operands_replaced.NewTrees.{is_whole}
use Rattle.law_operands_fetched.proofs.law_operands_replaced.PutParts.{each_put, over_is}
use Rattle.law_operands_fetched.proofs.law_operands_replaced.SetValues.{at_valued}
use Rattle.law_reload_moves.proofs.TakenThere.{IsAt, part_at, taken_there, parts_there}
use Rattle.law_operands_fetched.proofs.law_operands_replaced.Valued.{IsThere, HasValue, constant_valued}
use Rattle.law_operands_fetched.proofs.law_operands_replaced.InsnTurns.{two_of}

comparison_class : (k : Class) → is_comparison_class k ≡ true → k ≡ class.Comparison
comparison_class class.Comparison is = refl
comparison_class _ is = absurd (let no : ⊥ = cc in no)

constant_bare : (k : Class) → is_constant_class k ≡ true → is_bare_class k ≡ true
constant_bare class.Constant is = refl
constant_bare _ is = absurd (let no : ⊥ = cc in no)

counter_bare : (k : Class) → is_counter_class k ≡ true → is_bare_class k ≡ true
counter_bare class.Counter is = refl
counter_bare _ is = absurd (let no : ⊥ = cc in no)

three_of : (us : List Rtx) → length us ≡ 3 → (a : Rtx) × ((b : Rtx) × ((c : Rtx) × (us ≡ a ∷ b ∷ c ∷ [])))
three_of [] is = absurd (omega (arith, is))
three_of (a ∷ []) is = absurd (omega (arith, is))
three_of (a ∷ b ∷ []) is = absurd (omega (arith, is))
three_of (a ∷ b ∷ c ∷ []) is = (a, (b, (c, refl)))
three_of (a ∷ b ∷ c ∷ d ∷ us) is = absurd (omega (arith, is))

-- where two of three stand
pub data OfThree (a b c x y z q v : Rtx) : Type 0 where
  one : q ≡ a → v ≡ x → OfThree a b c x y z q v
  two : q ≡ b → v ≡ y → OfThree a b c x y z q v
  three : q ≡ c → v ≡ z → OfThree a b c x y z q v

of_three : (a b c x y z q v : Rtx) → AtOnePlace (a ∷ b ∷ c ∷ []) (x ∷ y ∷ z ∷ []) q v → OfThree a b c x y z q v
of_three a b c x y z q v at = by (a ∷ b ∷ c ∷ []) (x ∷ y ∷ z ∷ []) q v at refl refl
  where
    by : (ps xs : List Rtx) (q v : Rtx) → AtOnePlace ps xs q v → ps ≡ a ∷ b ∷ c ∷ [] → xs ≡ x ∷ y ∷ z ∷ [] → OfThree a b c x y z q v
    by _ _ _ _ (first p u ps xs) is is' = one (let e : p ≡ a = cc in e) (let e : u ≡ x = cc in e)
    by _ _ _ _ (later _ _ p u _ _ (first q' v' ps xs)) is is' = two (let e : q' ≡ b = cc in e) (let e : v' ≡ y = cc in e)
    by _ _ _ _ (later _ _ p u _ _ (later _ _ p' u' _ _ (first q' v' ps xs))) is is' = three (let e : q' ≡ c = cc in e) (let e : v' ≡ z = cc in e)
    by _ _ _ _ (later _ _ p u _ _ (later _ _ p' u' _ _ (later q' v' p'' u'' ps xs more))) is is' =
        absurd (none_at ps xs q' v' more (let none : xs ≡ [] = cc in none))

module _ (homes : List HomeOf) (layout : Layout) (found : Ops) (symbols : List SymbolAt) (regs : Regs) (m : List MemByte) where
  abbrev hm : Rtx → Rtx
  hm = homed homes layout

  abbrev pub Valued : Rtx → Type 0
  Valued y = HasValue symbols regs m y

  -- a comparison that has a value has it in each width
  comparison_valued : (test : Rtx) → is_comparison_class (class_at test) ≡ true → IsThere (value_of symbols regs m test W64) → Valued test
  comparison_valued test is there u own = (there.0, comparison_any symbols regs m test (kids_of test) u W64 (comparison_class (class_at test) is) refl ∙ there.1)

  module _ (k : ℕ) (t3 : Rtx) (mode : Mode) (reg : ℕ) (t3_is : t3 ≡ reg_of mode reg) where
    abbrev pub alone : Rtx → Rtx → Rtx
    alone q z = put q (put_at [] k t3) z

    -- the operand itself, in the place of a tree
    abbrev pub IsItself : Rtx → Type 0
    IsItself q = (role_of (head_of q).code ≡ Operand) × ((head_of q).number ≡ pos k)

    pub replaced : (q z : Rtx) → IsItself q → alone q z ≡ reg_of mode reg
    replaced q z is = put_alone q z t3 k is.0 is.1 ∙ t3_is

    -- the operand stands in a tree with a value
    pub in_value : (q1 y1 q y : Rtx) → At q1 y1 q y → all_pass is_shaped y1 ≡ true → all_pass is_whole y1 ≡ true → Valued y1 → Valued y
    in_value q1 y1 q y at shaped whole has = at_valued symbols regs m q1 y1 q y at shaped whole has

    -- or in one without parts, where it isn't that itself
    pub no_parts_there : (q1 y1 q y : Rtx) → At q1 y1 q y → kids_of y1 ≡ [] → IsItself q → (IsItself q1 → ⊥) → Valued y
    no_parts_there _ _ _ _ (here q y) none is never = absurd (never is)
    no_parts_there _ _ _ _ (inside q1 y1 p v q y other long at more) none is never = absurd (none_at (kids_of q1) (kids_of y1) p v at none)

    pub constant_there : (q1 uid q y : Rtx) → At q1 uid q y → is_constant uid ≡ true → all_pass is_shaped uid ≡ true → all_pass is_whole uid ≡ true → Valued y
    constant_there q1 uid q y at constant shaped whole =
        in_value q1 uid q y at shaped whole (constant_valued symbols regs m uid (nodes.itself is_shaped uid shaped) constant)

    -- in a label
    label_there : (b s q y : Rtx) → At b s q y → (uid : Rtx) → (head_of s).code ≡ code.LabelRef → kids_of s ≡ uid ∷ [] → all_pass is_shaped s ≡ true → all_pass is_whole s ≡ true →
        IsItself q → (IsItself b → ⊥) → Valued y
    label_there _ _ _ _ (here b s) uid is_label are shaped whole is never = absurd (never is)
    label_there _ _ _ _ (inside b s q1 y1 q y other long at more) uid is_label are shaped whole is never =
        let same : y1 ≡ uid = one_at (kids_of b) (kids_of s) q1 y1 uid at are in
        let shaped_uid : all_pass is_shaped uid ≡ true = (and_parts (all_pass is_shaped uid) true (sym (ap (list_all (all_pass is_shaped)) are) ∙ nodes.within is_shaped s shaped)).0 in
        let whole_uid : all_pass is_whole uid ≡ true = (and_parts (all_pass is_whole uid) true (sym (ap (list_all (all_pass is_whole)) are) ∙ nodes.within is_whole s whole)).0 in
        constant_there q1 uid q y (subst (λ v. At q1 v q y) same more)
        (label_constant s uid is_label are (nodes.itself is_shaped s shaped)) shaped_uid whole_uid

    -- what a choice is with the operand replaced
    three_parts : (b s b1 b2 b3 x z v : Rtx) → role_of (head_of b).code ≢ Operand → kids_of b ≡ b1 ∷ b2 ∷ b3 ∷ [] → kids_of s ≡ x ∷ z ∷ v ∷ [] →
        kids_of (alone b s) ≡ alone b1 x ∷ alone b2 z ∷ alone b3 v ∷ []
    three_parts b s b1 b2 b3 x z v other are are' =
        ap kids_of (over_is b (put_at [] k t3) s other) ∙ kids_of-tree (head_of s) (parts_by (each_put (kids_of b) (put_at [] k t3)) (kids_of s)) ∙
        ap (λ ps. parts_by (each_put ps (put_at [] k t3)) (kids_of s)) are ∙ ap (parts_by (each_put (b1 ∷ b2 ∷ b3 ∷ []) (put_at [] k t3))) are'

    pub over_head : (b s : Rtx) → role_of (head_of b).code ≢ Operand → head_of (alone b s) ≡ head_of s
    over_head b s other = ap head_of (over_is b (put_at [] k t3) s other) ∙ head_of-tree (head_of s) (parts_by (each_put (kids_of b) (put_at [] k t3)) (kids_of s))

    pub untrue' : (b : Bool) → b ≡ true → b ≡ false → ⊥
    untrue' b is is' = let e : true ≡ false = sym is ∙ is' in let no : ⊥ = cc in no

    -- at one of the places of a choice
    choice_place : (b1 b2 b3 test to rest q1 y1 q y : Rtx) → OfThree b1 b2 b3 test to rest q1 y1 → At q1 y1 q y → IsItself q →
        is_comparison_class (class_at test) ≡ true → IsThere (value_of symbols regs m test W64) → is_label_class (class_at to) ≡ true → is_counter_class (class_at rest) ≡ true →
        is_label_class (class_at (alone b2 to)) ≡ true → is_counter_class (class_at (alone b3 rest)) ≡ true →
        list_all (all_pass is_shaped) (test ∷ to ∷ rest ∷ []) ≡ true → list_all (all_pass is_whole) (test ∷ to ∷ rest ∷ []) ≡ true → Valued y
    choice_place b1 b2 b3 test to rest q1 y1 q y (one qs ys) at is compared there labelled counts labelled' counts' shapes wholes =
        in_value q1 test q y (subst (λ v. At q1 v q y) ys at) (and_parts (all_pass is_shaped test) _ shapes).0 (and_parts (all_pass is_whole test) _ wholes).0
        (comparison_valued test compared there)
    choice_place b1 b2 b3 test to rest q1 y1 q y (two qs ys) at is compared there labelled counts labelled' counts' shapes wholes =
        let shaped_to = (and_parts (all_pass is_shaped to) _ (and_parts (all_pass is_shaped test) _ shapes).1).0 in
        let whole_to = (and_parts (all_pass is_whole to) _ (and_parts (all_pass is_whole test) _ wholes).1).0 in
        let l = label_kids to labelled (nodes.itself is_shaped to shaped_to) in
        label_there q1 to q y (subst (λ v. At q1 v q y) ys at) l.0 l.1.0 l.1.1 shaped_to whole_to is
        (λ mine. untrue' (is_label_class (class_at (alone q1 to))) (subst (λ b. is_label_class (class_at (alone b to)) ≡ true) (sym qs) labelled')
        (ap (λ z. is_label_class (class_at z)) (replaced q1 to mine) ∙ (no_register mode reg).0))
    choice_place b1 b2 b3 test to rest q1 y1 q y (three qs ys) at is compared there labelled counts labelled' counts' shapes wholes =
        let shaped_rest = (and_parts (all_pass is_shaped rest) true (and_parts (all_pass is_shaped to) _ (and_parts (all_pass is_shaped test) _ shapes).1).1).0 in
        no_parts_there q1 rest q y (subst (λ v. At q1 v q y) ys at) (bare_kids rest (counter_bare (class_at rest) counts) (nodes.itself is_shaped rest shaped_rest)) is
        (λ mine. untrue' (is_counter_class (class_at (alone q1 rest))) (subst (λ b. is_counter_class (class_at (alone b rest)) ≡ true) (sym qs) counts')
        (ap (λ z. is_counter_class (class_at z)) (replaced q1 rest mine) ∙ (no_register mode reg).1.0))

    -- in a choice
    choice_there : (b s q y : Rtx) → At b s q y → (test to rest : Rtx) → (head_of s).code ≡ code.IfThenElse → kids_of s ≡ test ∷ to ∷ rest ∷ [] →
        IsThere (value_of symbols regs m test W64) → all_pass is_shaped s ≡ true → all_pass is_whole s ≡ true → all_pass is_shaped (alone b s) ≡ true →
        IsItself q → (IsItself b → ⊥) → Valued y
    choice_there _ _ _ _ (here b s) test to rest is_choice are there shaped whole shaped' is never = absurd (never is)
    choice_there _ _ _ _ (inside b s q1 y1 q y other long at more) test to rest is_choice are there shaped whole shaped' is never =
        let kids = three_of (kids_of b) (long ∙ ap length are) in
        let mine = choice_parts s test to rest is_choice are (nodes.itself is_shaped s shaped) in
        let new_kids = three_parts b s kids.0 kids.1.0 kids.1.1.0 test to rest other kids.1.1.1 are in
        let new_parts = choice_parts (alone b s) (alone kids.0 test) (alone kids.1.0 to) (alone kids.1.1.0 rest)
        (ap (λ (h : RtxHead). h.code) (over_head b s other) ∙ is_choice) new_kids (nodes.itself is_shaped (alone b s) shaped') in
        choice_place kids.0 kids.1.0 kids.1.1.0 test to rest q1 y1 q y
        (of_three kids.0 kids.1.0 kids.1.1.0 test to rest q1 y1 (subst (λ us. AtOnePlace us (test ∷ to ∷ rest ∷ []) q1 y1) kids.1.1.1 (subst (λ vs. AtOnePlace (kids_of b) vs q1 y1) are at)))
        more is mine.0 there mine.1.0 mine.1.1 new_parts.1.0 new_parts.1.1
        (ap (list_all (all_pass is_shaped)) (sym are) ∙ nodes.within is_shaped s shaped) (ap (list_all (all_pass is_whole)) (sym are) ∙ nodes.within is_whole s whole)

    -- in what the pc is set to
    source_there : (b s q y : Rtx) (way : Way) → At b s q y → way_of symbols regs m s ≡ Some way → all_pass is_shaped s ≡ true → all_pass is_whole s ≡ true →
        all_pass is_shaped (alone b s) ≡ true → is_jump_source_class (class_at (alone b s)) ≡ true → IsItself q → Valued y
    source_there b s q y way at does shaped whole shaped' source is = by (source_is symbols regs m s way does)
      where
        never : IsItself b → ⊥
        never mine = untrue' (is_jump_source_class (class_at (alone b s))) source (ap (λ z. is_jump_source_class (class_at z)) (replaced b s mine) ∙ (no_register mode reg).1.1)

        by : IsSource symbols regs m s → Valued y
        by (label uid is_label are) = label_there b s q y at uid is_label are shaped whole is never
        by (choice test to rest is_choice are there) = choice_there b s q y at test to rest is_choice are there shaped whole shaped' is never

    -- ---- an answer

    -- the operand has a value, or stands in a low part
    abbrev pub Answer : Rtx → Rtx → Type 0
    Answer pattern w = IsValued homes layout found symbols regs m k ⊎ IsLow homes layout found pattern w (pos k)

    -- what stands there is the operand
    pub itself_there : (q : Rtx) → ((IsItself q) ⊎ (is_operator_of k q ≡ true)) → no_operator_of k q ≡ true → IsItself q
    itself_there q (inl mine) none = mine
    itself_there q (inr operator) none = absurd (untrue' (no_operator_of k q) none (ap not operator))

    pub in_target : (pattern w a va t : Rtx) → IsAt homes layout found a va t → kids_of t ≡ [] → ((number : ℤ) → IsLow homes layout found a va number → IsLow homes layout found pattern w number) →
        has_number k (taken_at a) ≡ true → Answer pattern w
    in_target pattern w a va t is_a bare lows target = elim (is_subreg (head_of a).code) [
      | inl low ↦ absurd (low_nothing homes layout found symbols regs m a va t k is_a low target)
      | inr other ↦
          let any : list_any (λ part. has_number k (taken_in part)) (kids_of a) ≡ true =
          sym (ap (has_number k) (not_low (head_of a).code (kids_of a) other) ∙ has_in_each k taken_in (kids_of a)) ∙ target in
          let no_operand : role_of (head_of a).code ≢ Operand = λ o.
          (let none' = empty homes layout found (kids_of a) (ap (λ r. is_leaf_as r (kids_of a)) (sym o) ∙ nodes.itself is_leaf a is_a.leaf) in
          let e : false ≡ true = sym (ap (list_any (λ part. has_number k (taken_in part))) none') ∙ any in let no : ⊥ = cc in no) in
          elim (parts_there homes layout found a va t k is_a no_operand any) [
            | inl part ↦ absurd (none_at (kids_of a) (kids_of t) part.q part.y part.at bare)
            | inr low ↦ inr (lows (pos k) low)
          ]
    ]

    pub in_source : (pattern w b vb s : Rtx) → IsAt homes layout found b vb s → ((there : StandsThere homes layout found b s k) → Valued there.y) →
        ((number : ℤ) → IsLow homes layout found b vb number → IsLow homes layout found pattern w number) → has_number k (taken_in b) ≡ true → Answer pattern w
    in_source pattern w b vb s is_b valued lows source = elim (taken_there homes layout found b vb s k is_b source) [
      | inl there ↦ inl (record { was = there.was; found_is = there.found_is; has = subst (HasValue symbols regs m) there.tree_is (valued there) })
      | inr low ↦ inr (lows (pos k) low)
    ]

    -- ---- a jump

    module _ (pattern w : Rtx) (is : IsAt homes layout found pattern w (hm w)) (shaped : all_pass is_shaped (hm w) ≡ true) (whole : all_pass is_whole (hm w) ≡ true)
        (no_op : all_pass (no_operator_of k) pattern ≡ true) (shaped_too : all_pass is_shaped (alone pattern (hm w)) ≡ true)
        (jumps : is_jump_tree (alone pattern (hm w)) ≡ true) where
      abbrev x : Rtx
      x = hm w

      set_valued : (t s : Rtx) (way : Way) → (head_of x).code ≡ code.Set → kids_of x ≡ t ∷ s ∷ [] → is_pc t ≡ true → way_of symbols regs m s ≡ Some way →
          has_number k (taken_by pattern) ≡ true → Answer pattern w
      set_valued t s way x_set are' pc does has =
          let role = taken_role k (head_of pattern).code pattern (kids_of pattern) has in
          let differ : role_of (head_of pattern).code ≢ Operand = λ o. let no : Itself ≡ Operand = sym role ∙ o in let never : ⊥ = cc in never in
          let effect : is_effect x ≡ true = ap (λ c. is_effect_class (class_of_code c)) x_set in
          let none = no_place homes layout found w effect in
          let h = beside_head homes layout found pattern w x is.made is.tree_is role effect in
          let p_set : (head_of pattern).code ≡ code.Set = ap (λ (h : RtxHead). h.code) (sym h.0) ∙ x_set in
          let two = two_of (kids_of pattern) (h.1 ∙ ap length are') in
          let a : Rtx = two.0 in let b : Rtx = two.1.0 in
          let shapes = ap (list_all (all_pass is_shaped)) (sym are') ∙ nodes.within is_shaped x shaped in
          let wholes = ap (list_all (all_pass is_whole)) (sym are') ∙ nodes.within is_whole x whole in
          let shaped_t = (and_parts (all_pass is_shaped t) _ shapes).0 in
          let shaped_s = (and_parts (all_pass is_shaped s) true (and_parts (all_pass is_shaped t) _ shapes).1).0 in
          let whole_s = (and_parts (all_pass is_whole s) true (and_parts (all_pass is_whole t) _ wholes).1).0 in
          let new_kids : kids_of (alone pattern x) ≡ alone a t ∷ alone b s ∷ [] =
          ap kids_of (over_is pattern (put_at [] k t3) x differ) ∙ kids_of-tree (head_of x) (parts_by (each_put (kids_of pattern) (put_at [] k t3)) (kids_of x)) ∙
          ap (λ ps. parts_by (each_put ps (put_at [] k t3)) (kids_of x)) two.1.1 ∙ ap (parts_by (each_put (a ∷ b ∷ []) (put_at [] k t3))) are' in
          let new_set : (head_of (alone pattern x)).code ≡ code.Set = ap (λ (h : RtxHead). h.code) (over_head pattern x differ) ∙ x_set in
          let new_pc : is_pc (alone a t) ≡ true =
          sym (ap (λ c. is_jump_by (class_of_code c) (kids_of (alone pattern x))) new_set ∙ ap (is_jump_by class.Setting) new_kids) ∙ jumps in
          let new_source = set_source (alone pattern x) (alone a t) (alone b s) new_set new_kids (nodes.itself is_shaped (alone pattern x) shaped_too) new_pc in
          let new_shapes = ap (list_all (all_pass is_shaped)) (sym new_kids) ∙ nodes.within is_shaped (alone pattern x) shaped_too in
          let new_shaped_s = (and_parts (all_pass is_shaped (alone b s)) true (and_parts (all_pass is_shaped (alone a t)) _ new_shapes).1).0 in
          let at_a = first_of a b t s (kids_of pattern) (kids_of x) two.1.1 are' in
          let at_b = second_of a b t s (kids_of pattern) (kids_of x) two.1.1 are' in
          let taken : has_number k (taken_at a ++ taken_in b) ≡ true =
          sym (ap (λ c. has_number k (taken_by_parts c pattern (kids_of pattern))) p_set ∙ ap (λ kids. has_number k (taken_by_parts code.Set pattern kids)) two.1.1) ∙ has in
          elim (or_cases (has_number k (taken_at a)) (has_number k (taken_in b)) (sym (has_in_both k (taken_at a) (taken_in b)) ∙ taken)) [
            | inl target ↦
                let pb = part_beside homes layout found pattern w x a t is.made is.tree_is is.shaped differ none at_a in
                let is_a = part_at homes layout found pattern w x a t is differ none at_a in
                in_target pattern w a pb.was t is_a (bare_kids t (counter_bare (class_at t) (ap is_counter_class (pc_class (head_of t).code pc))) (nodes.itself is_shaped t shaped_t)) pb.lows target
            | inr source ↦
                let pb = part_beside homes layout found pattern w x b s is.made is.tree_is is.shaped differ none at_b in
                let is_b = part_at homes layout found pattern w x b s is differ none at_b in
                let no_b = both_pass a b t s two.1.1 in
                in_source pattern w b pb.was s is_b (λ there. source_there b s there.q there.y way there.at does shaped_s whole_s new_shaped_s new_source
                (itself_there there.q there.place (at_pass (no_operator_of k) b s there.q there.y there.at no_b))) pb.lows source
          ]
        where
          both_pass : (a b t s : Rtx) → kids_of pattern ≡ a ∷ b ∷ [] → all_pass (no_operator_of k) b ≡ true
          both_pass a b t s are = (and_parts (all_pass (no_operator_of k) b) true (and_parts (all_pass (no_operator_of k) a) _
              (sym (ap (list_all (all_pass (no_operator_of k))) are) ∙ nodes.within (no_operator_of k) pattern no_op)).1).0

      return_none : (head_of x).code ≡ code.Return → has_number k (taken_by pattern) ≡ true → ⊥
      return_none x_return has =
          let role = taken_role k (head_of pattern).code pattern (kids_of pattern) has in
          let effect : is_effect x ≡ true = ap (λ c. is_effect_class (class_of_code c)) x_return in
          let h = beside_head homes layout found pattern w x is.made is.tree_is role effect in
          let p_return : (head_of pattern).code ≡ code.Return = ap (λ (h : RtxHead). h.code) (sym h.0) ∙ x_return in
          let bare : kids_of x ≡ [] = bare_kids x (ap (λ c. is_bare_class (class_of_code c)) x_return) (nodes.itself is_shaped x shaped) in
          let kids : kids_of pattern ≡ [] = short (kids_of pattern) (h.1 ∙ ap length bare) in
          let taken : has_number k (taken_in pattern) ≡ true = sym (ap (λ c. has_number k (taken_by_parts c pattern (kids_of pattern))) p_return) ∙ has in
          let e : false ≡ true =
          sym (takes_out k pattern ∙ ap (λ c. has_number k (operand_here c (head_of pattern).number) || list_any (λ part. has_number k (taken_in part)) (kids_of pattern)) p_return ∙
          ap (list_any (λ part. has_number k (taken_in part))) kids) ∙ taken in
          let no : ⊥ = cc in no
        where
          short : (ps : List Rtx) → length ps ≡ 0 → ps ≡ []
          short [] is = refl
          short (p ∷ ps) is = absurd (omega (arith, is))

      only : (b : Bool) → (b || false) ≡ true → b ≡ true
      only true is = refl
      only false is = is

      -- what a jump takes has a value
      pub jump_valued : (way : Way) → jump_of symbols regs m x ≡ Some way → is_input pattern k ≡ true → Answer pattern w
      jump_valued way does input = by (jump_is symbols regs m x way does)
        where
          taken : is_effect x ≡ true → (head_of x).code ≢ code.Parallel → has_number k (taken_by pattern) ≡ true
          taken effect other =
              let not_one : (head_of pattern).code ≢ code.Parallel = λ one.
              other (ap (λ (h : RtxHead). h.code) (beside_head homes layout found pattern w x is.made is.tree_is (ap role_of one) effect).0 ∙ one) in
              only (has_number k (taken_by pattern)) (sym (ap (list_any (λ q. has_number k (taken_by q))) (pattern_other pattern not_one)) ∙
              sym (has_in_each k taken_by (inputs.effects_of pattern)) ∙ input)

          by : IsJump symbols regs m x → Answer pattern w
          by (returns is_return) = absurd (return_none is_return (taken (ap (λ c. is_effect_class (class_of_code c)) is_return)
              (λ e. let no : code.Return ≡ code.Parallel = sym is_return ∙ e in let never : ⊥ = cc in never)))
          by (sets t s way x_set are' pc goes) = set_valued t s way x_set are' pc goes (taken (ap (λ c. is_effect_class (class_of_code c)) x_set)
              (λ e. let no : code.Set ≡ code.Parallel = sym x_set ∙ e in let never : ⊥ = cc in never))
