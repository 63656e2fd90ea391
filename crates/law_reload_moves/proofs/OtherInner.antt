-- A jump and a call for which a plan is chosen, behind the moves before it: they go the same way, and tell the same.
use Rattle.std.proofs.Common.{◌≡◌, ◌≢◌, ◌⊎◌, inl, inr, ℕ, ◌==◌, ◌&&◌, ◌||◌, not, if◌then◌else◌, Bool, true, false, List, [], ◌∷◌, length, map, Option, Some, None, refl, sym, ap, subst, ◌∙◌}
use Rattle.std.proofs.lemmas.Bool.{and_parts, or_left}
use Rattle.std.specs.List.{list_all, list_any}
use Rattle.std.specs.Prelude.{ℤ, pos, slice_get, unwrap_or}
use Rattle.law_operands_fetched.proofs.rtx_tree.Trees.{head_of-tree, kids_of-tree, tree_of-parts}
use Rattle.law_operands_fetched.specs.rtx_tree.Code.{class_of_code, is_effect_class}
use Rattle.law_operands_fetched.specs.rtx_tree.Patterns.{is_pc}
use Rattle.law_operands_fetched.specs.rtx_tree.Tree.{RtxHead, head_of, kids_of, tree_of}
use Rattle.law_operands_fetched.specs.rtx_tree.declared.class.Class.{Class}
use Rattle.law_operands_fetched.specs.rtx_tree.declared.class.Class.TheVariants as class
use Rattle.law_operands_fetched.specs.rtx_tree.declared.code.Code.{Code}
use Rattle.law_operands_fetched.specs.rtx_tree.declared.code.Code.TheVariants as code
use Rattle.law_operands_fetched.specs.rtx_tree.declared.function.Kind.{Kind}
use Rattle.law_operands_fetched.specs.rtx_tree.declared.function.Kind.TheVariants as kinds
use Rattle.law_operands_fetched.specs.rtx_tree.declared.machine.SymbolAt.{SymbolAt}
use Rattle.law_operands_fetched.specs.rtx_tree.declared.memories.MemByte.{MemByte}
use Rattle.law_operands_fetched.specs.rtx_tree.declared.tree.Rtx.{Rtx, out-roll-Rtx}
use Rattle.law_operands_fetched.specs.rtx_tree.declared.tree.Rtx.TheOpen.{Rtx-F}
use Rattle.law_operands_fetched.specs.rtl_func.Kinds.{is_jump_by, is_jump_tree}
use Rattle.law_operands_fetched.specs.rtl_func.Shapes.{class_at, is_effect, is_shaped}
use Rattle.law_operands_fetched.proofs.rtl_func.AllPass as nodes
use Rattle.law_operands_fetched.proofs.rtl_func.AllPass.{all_pass}
use Rattle.law_operands_fetched.specs.rtl_step.Jump.{jump_of}
use Rattle.law_operands_fetched.specs.rtl_step.Regs.{Regs}
use Rattle.law_operands_fetched.specs.rtl_step.declared.jump.Way.{Way}
use Rattle.law_operands_fetched.specs.md_constr.Inputs.{taken_in, taken_by_parts}
use Rattle.law_operands_fetched.specs.md_constr.Inputs as inputs
use Rattle.law_operands_fetched.specs.md_match.Pattern.{Ops, role_of, operand_numbered}
use Rattle.law_operands_fetched.specs.md_match.declared.role.Role.{Role}
use Rattle.law_operands_fetched.specs.md_match.declared.role.Role.TheVariants.{Operand, Operator, Itself}
use Rattle.law_operands_fetched.specs.assign.declared.home.HomeOf.{HomeOf}
use Rattle.law_operands_fetched.specs.assign.declared.places.Layout.{Layout}
use Rattle.law_operands_fetched.specs.reload_homes.Homes.{homed}
use Rattle.law_operands_fetched.specs.reload_operands.Directions.{has_number, scratches_in}
use Rattle.law_operands_fetched.specs.reload_operands.Put.{each_by, parts_by, put}
use Rattle.law_operands_fetched.proofs.reload_operands.PutLaws.{put_operand}
use Rattle.law_operands_fetched.specs.reload_choice.declared.given.Given.{Given}
use Rattle.law_operands_fetched.specs.reload_choice.declared.given.Plan.{Plan}
use Rattle.law_operands_fetched.specs.law_operands_replaced.Places.{first, itself, part}
use Rattle.law_operands_fetched.specs.law_operands_replaced.Spare.{KnowsRest}
use Rattle.law_operands_fetched.proofs.law_operands_replaced.Addresses.{IsNewTree, is_new_class}
use Rattle.law_reload_moves.proofs.Chosen.{given, news}
use Rattle.law_operands_fetched.proofs.law_operands_replaced.ElementTurns.{NewFor, stays_for, moves_for, AllNew, AllReads, all_read, part_new}
use Rattle.law_operands_fetched.proofs.Fetching.{Fetching}
use Rattle.law_reload_moves.proofs.GivenBeside.{none_new, whole_beside, first_of, second_of}
use Rattle.law_reload_moves.proofs.GivenNews.{own, mode, tree, result_at, Reads, Lost, Free, AreFetched}
use Rattle.law_operands_fetched.proofs.law_operands_replaced.HiddenTurns.{Read}
use Rattle.law_operands_fetched.proofs.law_operands_replaced.InsnTurns.{IsBeside, operator_becomes, operand_stays, two_of}
use Rattle.law_operands_fetched.proofs.law_operands_replaced.JumpTrees.{IsJump, returns, sets, jump_is, is_bare_class, bare_kids, pc_class}
use Rattle.law_operands_fetched.proofs.law_operands_replaced.NewTrees.{Becomes, AllBecome, is_lowpart, is_whole, whole_low}
use Rattle.law_operands_fetched.proofs.law_operands_replaced.NewTrees as trees
use Rattle.law_reload_moves.proofs.PlainInner.{other, known, fetched}
use Rattle.law_operands_fetched.proofs.law_operands_replaced.PutParts.{each_put, over_is}
use Rattle.law_operands_fetched.proofs.law_operands_replaced.Putting.{put_becomes}
use Rattle.law_reload_moves.proofs.TakenPlaces.{IsEffectOf, IsRead, stands_taken, input_of, scratch_hidden}
use Rattle.law_reload_moves.proofs.TakenThere.{IsAt}

-- a tree becomes another, in which new trees are read as those in whose places they stand
pub record TurnsInto (symbols : List SymbolAt) (regs other : Regs) (m : List MemByte) (x y : Rtx) : Type 1 where
  pub New : Rtx → Rtx → Type 0
  pub new : (z r : Rtx) → New z r → IsNewTree symbols regs other m z r
  pub becomes : Becomes New x y

new_no_effect : (k : Class) → is_new_class k ≡ true → (k ≡ class.Counter → ⊥) × (k ≡ class.Call → ⊥)
new_no_effect k is = (
  (λ e. let no' : false ≡ true = ap is_new_class (sym e) ∙ is in let no : ⊥ = cc in no),
  (λ e. let no' : false ≡ true = ap is_new_class (sym e) ∙ is in let no : ⊥ = cc in no),
)

module _ (homes : List HomeOf) (layout : Layout) (kind : Kind) (w pattern : Rtx) (found : Ops) (plan : Plan)
    (symbols : List SymbolAt) (regs : Regs) (m : List MemByte) (sp : ℕ)
    (f : Fetching symbols regs m sp (given homes layout kind w pattern found plan) plan)
    (at : IsAt homes layout found pattern w (homed homes layout w)) (whole : all_pass is_whole (homed homes layout w) ≡ true) where
  abbrev pub g : Given
  g = given homes layout kind w pattern found plan

  abbrev pub x : Rtx
  x = homed homes layout w

  abbrev pub all_news : Ops
  all_news = news homes layout kind w pattern found plan

  abbrev pub y : Rtx
  y = put pattern all_news x

  abbrev pub o : Regs
  o = other homes layout kind w pattern found plan symbols regs m sp f at

  abbrev pub kn : KnowsRest regs o
  kn = known homes layout kind w pattern found plan symbols regs m sp f at

  abbrev fe : AreFetched homes layout kind w pattern found plan f.sound symbols regs o m kn at.made at.shaped
  fe = fetched homes layout kind w pattern found plan symbols regs m sp f at

  abbrev pub Into : Type 1
  Into = TurnsInto symbols regs o m x y

  abbrev Beside : Rtx → Rtx → Type 0
  Beside q z = IsBeside symbols regs o m kn (own homes layout kind w pattern found plan) (mode homes layout kind w pattern found plan)
      (tree homes layout kind w pattern found plan) (Free homes layout kind w pattern found plan) (result_at homes layout kind w pattern found plan) all_news
      (Reads homes layout kind w pattern found plan) (Lost homes layout kind w pattern found plan)
      (none_new homes layout kind w pattern found plan f.sound symbols regs o m kn at.made at.shaped fe) q z

  pub beside : is_effect x ≡ true → (head_of pattern).code ≢ code.Parallel → Beside pattern x
  beside effect other' = (whole_beside homes layout kind w pattern found plan f.sound symbols regs o m kn at.made at.shaped fe effect).alone other'

  pub head_is : is_effect x ≡ true → role_of (head_of pattern).code ≡ Itself → (head_of x ≡ head_of pattern) × (length (kids_of pattern) ≡ length (kids_of x))
  head_is effect role = (whole_beside homes layout kind w pattern found plan f.sound symbols regs o m kn at.made at.shaped fe effect).head_is role effect

  -- ---- a target without parts stays

  bare_same : (a t : Rtx) → role_of (head_of a).code ≢ Operand → kids_of t ≡ [] → put a all_news t ≡ t
  bare_same a t other' bare =
      over_is a all_news t other' ∙ ap (λ ks. tree_of (head_of t) (parts_by (each_put (kids_of a) all_news) ks)) bare ∙
      ap (tree_of (head_of t)) (nothing_by (each_put (kids_of a) all_news)) ∙ ap (tree_of (head_of t)) (sym bare) ∙ tree_of-parts t
    where
      none_each : (fs : List (Rtx → Rtx)) → each_by fs [] ≡ []
      none_each [] = refl
      none_each (h ∷ fs) = refl

      either : (b : Bool) (fs : List (Rtx → Rtx)) → (if b then each_by fs [] else []) ≡ []
      either true fs = none_each fs
      either false fs = refl

      nothing_by : (fs : List (Rtx → Rtx)) → parts_by fs [] ≡ []
      nothing_by fs = either (length fs == 0) fs

  -- what is new for an operand that is set, of a class that no new tree has in its place
  abbrev News : Rtx → Rtx → Type 0
  News q z = AllNew symbols regs o m kn (own homes layout kind w pattern found plan) (mode homes layout kind w pattern found plan)
      (tree homes layout kind w pattern found plan) (Free homes layout kind w pattern found plan) (result_at homes layout kind w pattern found plan) all_news
      (Reads homes layout kind w pattern found plan) (Lost homes layout kind w pattern found plan) q z

  abbrev ReadsAll : Rtx → Rtx → Type 0
  ReadsAll q z = AllReads symbols regs o m kn (own homes layout kind w pattern found plan) (mode homes layout kind w pattern found plan)
      (tree homes layout kind w pattern found plan) (Free homes layout kind w pattern found plan) (result_at homes layout kind w pattern found plan) all_news
      (Reads homes layout kind w pattern found plan) (Lost homes layout kind w pattern found plan) q z

  pub target_same : (a t : Rtx) → kids_of t ≡ [] → ((r : Rtx) → role_of (head_of a).code ≡ Operand → operand_numbered all_news (head_of a).number ≡ Some r → ⊥) → put a all_news t ≡ t
  target_same a t bare never = by (role_of (head_of a).code) refl
    where
      operand_by : (n : Option Rtx) → role_of (head_of a).code ≡ Operand → operand_numbered all_news (head_of a).number ≡ n → put a all_news t ≡ t
      operand_by None role none = put_operand a all_news t role ∙ ap (λ n. unwrap_or n t) none
      operand_by (Some r) role has = absurd (never r role has)

      by : (r : Role) → role_of (head_of a).code ≡ r → put a all_news t ≡ t
      by Operand role = operand_by (operand_numbered all_news (head_of a).number) role refl
      by Operator role = bare_same a t (λ p. let no : Operator ≡ Operand = sym role ∙ p in let never' : ⊥ = cc in never') bare
      by Itself role = bare_same a t (λ p. let no : Itself ≡ Operand = sym role ∙ p in let never' : ⊥ = cc in never') bare

  -- ---- a set, a call, and what an operator stands for

  pub set_into : (a b t s : Rtx) → is_effect x ≡ true → (head_of pattern).code ≡ code.Set → kids_of pattern ≡ a ∷ b ∷ [] → kids_of x ≡ t ∷ s ∷ [] →
      put a all_news t ≡ t → Into
  set_into a b t s effect is_set are are' same =
      let not_one : (head_of pattern).code ≢ code.Parallel = λ e. let no : code.Set ≡ code.Parallel = sym is_set ∙ e in let never : ⊥ = cc in never in
      let differ : role_of (head_of pattern).code ≢ Operand = λ e. let no : Itself ≡ Operand = sym (ap role_of is_set) ∙ e in let never : ⊥ = cc in never in
      let bs = beside effect not_one in
      let long : length (kids_of pattern) ≡ length (kids_of x) = ap length are ∙ sym (ap length are') in
      let new_b = part_new symbols regs o m kn _ _ _ _ _ all_news _ _ pattern x b s differ long (second_of a b t s (kids_of pattern) (kids_of x) are are') bs.new in
      let wholes = and_parts (all_pass is_whole t) _ (ap (list_all (all_pass is_whole)) (sym are') ∙ nodes.within is_whole x whole) in
      let whole_s : all_pass is_whole s ≡ true = (and_parts (all_pass is_whole s) true wholes.1).0 in
      let source : Becomes (IsNewTree symbols regs o m) s (put b all_news s) =
      put_becomes (IsNewTree symbols regs o m) all_news b s
      (all_read symbols regs o m kn _ _ _ _ _ all_news _ _ b s new_b (bs.set_reads a b t s is_set are are').1) whole_s in
      let made = over_is pattern all_news x differ in
      let kids : kids_of y ≡ t ∷ put b all_news s ∷ [] =
      ap kids_of made ∙ kids_of-tree (head_of x) (parts_by (each_put (kids_of pattern) all_news) (kids_of x)) ∙
      ap (λ ps. parts_by (each_put ps all_news) (kids_of x)) are ∙ ap (parts_by (each_put (a ∷ b ∷ []) all_news)) are' ∙ ap (λ t. t ∷ put b all_news s ∷ []) same in
      record {
        New = IsNewTree symbols regs o m;
        new = λ z r is. is;
        becomes = trees.over x y (ap head_of made ∙ head_of-tree (head_of x) (parts_by (each_put (kids_of pattern) all_news) (kids_of x)))
            (whole_low (is_lowpart x) (nodes.itself is_whole x whole))
            (subst (λ us. AllBecome (IsNewTree symbols regs o m) us (kids_of y)) (sym are')
            (subst (AllBecome (IsNewTree symbols regs o m) (t ∷ s ∷ [])) (sym kids)
            (trees.next t t (s ∷ []) (put b all_news s ∷ []) (trees.same t) (trees.next s (put b all_news s) [] [] source trees.none))));
      }

  pub operator_into : is_effect x ≡ true → role_of (head_of pattern).code ≡ Operator → Into
  operator_into effect role = record {
    New = Read symbols regs o m kn;
    new = λ z r is. is.new;
    becomes = operator_becomes symbols regs o m kn _ _ _ _ _ all_news _ _ _ pattern x
        (beside effect (λ e. let no : Operator ≡ Itself = sym role ∙ ap role_of e in let never : ⊥ = cc in never)) role whole;
  }

  same_into : y ≡ x → Into
  same_into same = record {
    New = IsNewTree symbols regs o m;
    new = λ z r is. is;
    becomes = subst (Becomes (IsNewTree symbols regs o m) x) (sym same) (trees.same x);
  }

  pub operand_into : is_effect x ≡ true → is_effect y ≡ true → role_of (head_of pattern).code ≡ Operand → Into
  operand_into effect effect' role = same_into (operand_stays symbols regs o m kn _ _ _ _ _ all_news _ _ _ pattern x
      (beside effect (λ e. let no : Operand ≡ Itself = sym role ∙ ap role_of e in let never : ⊥ = cc in never)) role effect')

  -- a call alone reads all
  pub call_into : is_effect x ≡ true → (head_of pattern).code ≡ code.Call → Into
  call_into effect is_call =
      let not_one : (head_of pattern).code ≢ code.Parallel = λ e. let no : code.Call ≡ code.Parallel = sym is_call ∙ e in let never : ⊥ = cc in never in
      let bs = beside effect not_one in record {
        New = IsNewTree symbols regs o m;
        new = λ z r is. is;
        becomes = put_becomes (IsNewTree symbols regs o m) all_news pattern x
            (all_read symbols regs o m kn _ _ _ _ _ all_news _ _ pattern x bs.new (λ number z r stands has k same. reads k (stands_taken pattern x number z k stands same))) whole;
      }
    where
      alone_effect : IsEffectOf pattern pattern
      alone_effect test is = ap (λ c. list_any test (inputs.effects_by c pattern (kids_of pattern))) is_call ∙ or_left (test pattern) false is

      reads : (k : ℕ) → (has_number k (taken_in pattern) ≡ true) ⊎ (has_number k (scratches_in pattern) ≡ true) → IsRead pattern k
      reads k (inl taken) = inl (input_of pattern pattern k alone_effect (ap (λ c. has_number k (taken_by_parts c pattern (kids_of pattern))) is_call ∙ taken))
      reads k (inr scratch) = inr (scratch_hidden pattern pattern k alone_effect (λ e. let no : code.Call ≡ code.Clobber = sym is_call ∙ e in let never : ⊥ = cc in never) scratch)

  -- ---- jumps

  module _ (jumps : is_jump_tree y ≡ true) where
    jump_bare : (c : Code) → (head_of x).code ≡ c → (c ≡ code.Return) ⊎ (c ≡ code.Set) → is_effect x ≡ true
    jump_bare c is (inl same) = ap (λ c. is_effect_class (class_of_code c)) (is ∙ same)
    jump_bare c is (inr same) = ap (λ c. is_effect_class (class_of_code c)) (is ∙ same)

    -- a jump with new trees put in
    pub jump_into : (way : Way) → jump_of symbols regs m x ≡ Some way → all_pass is_shaped x ≡ true → is_effect y ≡ true → Into
    jump_into way does shaped_x effect' = by_jump (jump_is symbols regs m x way does)
      where
        same_y : is_effect x ≡ true → role_of (head_of pattern).code ≡ Itself → head_of y ≡ head_of x
        same_y effect role =
            let differ : role_of (head_of pattern).code ≢ Operand = λ e. let no : Itself ≡ Operand = sym role ∙ e in let never : ⊥ = cc in never in
            ap head_of (over_is pattern all_news x differ) ∙ head_of-tree (head_of x) (parts_by (each_put (kids_of pattern) all_news) (kids_of x))

        set_jump : (t s : Rtx) → (head_of x).code ≡ code.Set → kids_of x ≡ t ∷ s ∷ [] → is_pc t ≡ true → is_effect x ≡ true → role_of (head_of pattern).code ≡ Itself → Into
        set_jump t s x_set are' pc effect role =
            let h = head_is effect role in
            let p_set : (head_of pattern).code ≡ code.Set = ap (λ (h : RtxHead). h.code) (sym h.0) ∙ x_set in
            let two = two_of (kids_of pattern) (h.1 ∙ ap length are') in
            let differ : role_of (head_of pattern).code ≢ Operand = λ e. (let no : Itself ≡ Operand = sym role ∙ e in let never : ⊥ = cc in never) in
            let made = over_is pattern all_news x differ in
            let kids : kids_of y ≡ put two.0 all_news t ∷ put two.1.0 all_news s ∷ [] =
            ap kids_of made ∙ kids_of-tree (head_of x) (parts_by (each_put (kids_of pattern) all_news) (kids_of x)) ∙
            ap (λ ps. parts_by (each_put ps all_news) (kids_of x)) two.1.1 ∙ ap (parts_by (each_put (two.0 ∷ two.1.0 ∷ []) all_news)) are' in
            let new_pc : is_pc (put two.0 all_news t) ≡ true =
            sym (ap (λ c. is_jump_by (class_of_code c) (kids_of y)) (ap (λ (h : RtxHead). h.code) (same_y effect role) ∙ x_set) ∙ ap (is_jump_by class.Setting) kids) ∙ jumps in
            let shaped_t = (and_parts (all_pass is_shaped t) _ (ap (list_all (all_pass is_shaped)) (sym are') ∙ nodes.within is_shaped x shaped_x)).0 in
            let bare = bare_kids t (ap is_bare_class (pc_class (head_of t).code pc)) (nodes.itself is_shaped t shaped_t) in
            let not_one : (head_of pattern).code ≢ code.Parallel = λ e. (let no : code.Set ≡ code.Parallel = sym p_set ∙ e in let never : ⊥ = cc in never) in
            let bs = beside effect not_one in
            let long : length (kids_of pattern) ≡ length (kids_of x) = ap length two.1.1 ∙ sym (ap length are') in
            let new_a = part_new symbols regs o m kn _ _ _ _ _ all_news _ _ pattern x two.0 t differ long
            (first_of two.0 two.1.0 t s (kids_of pattern) (kids_of x) two.1.1 are') bs.new in
            set_into two.0 two.1.0 t s effect p_set two.1.1 are' (target_same two.0 t bare (λ r operand has.
            let c = new_class (head_of two.0).number t r (new_a (head_of two.0).number t r (itself two.0 t operand) has) in
            (new_no_effect (class_at r) c).0 (ap class_at (sym (put_operand two.0 all_news t operand ∙ ap (λ n. unwrap_or n t) has)) ∙ pc_class (head_of (put two.0 all_news t)).code new_pc)))
          where
            new_class : (number : ℤ) (z r : Rtx) → NewFor symbols regs o m kn (own homes layout kind w pattern found plan) (mode homes layout kind w pattern found plan)
                (tree homes layout kind w pattern found plan) (Free homes layout kind w pattern found plan) (result_at homes layout kind w pattern found plan) all_news
                (Reads homes layout kind w pattern found plan) (Lost homes layout kind w pattern found plan) number z r → is_new_class (class_at r) ≡ true
            new_class number z r (stays_for is place none) = is.class_is
            new_class number z r (moves_for k tree_is reg_is spare here modes may lost) =
                ap (λ r. is_new_class (class_at r)) reg_is ∙ ap (λ (o : Rtx-F Rtx). is_new_class (class_of_code o.code)) (out-roll-Rtx _)

        return_jump : (head_of x).code ≡ code.Return → is_effect x ≡ true → role_of (head_of pattern).code ≡ Itself → Into
        return_jump x_return effect role =
            let bare = bare_kids x (ap (λ c. is_bare_class (class_of_code c)) x_return) (nodes.itself is_shaped x shaped_x) in
            same_into (bare_same pattern x (λ e. let no : Itself ≡ Operand = sym role ∙ e in let never : ⊥ = cc in never) bare)

        by_role : is_effect x ≡ true → (role_of (head_of pattern).code ≡ Itself → Into) → (r : Role) → role_of (head_of pattern).code ≡ r → Into
        by_role effect it Itself role = it role
        by_role effect it Operator role = operator_into effect role
        by_role effect it Operand role = operand_into effect effect' role

        by_jump : IsJump symbols regs m x → Into
        by_jump (returns is) =
            let effect : is_effect x ≡ true = ap (λ c. is_effect_class (class_of_code c)) is in
            by_role effect (return_jump is effect) (role_of (head_of pattern).code) refl
        by_jump (sets t s way is are' pc goes) =
            let effect : is_effect x ≡ true = ap (λ c. is_effect_class (class_of_code c)) is in
            by_role effect (set_jump t s is are' pc effect) (role_of (head_of pattern).code) refl
