-- A call for which a plan is chosen, with its new trees: what is called is called, and its result stands where it stood.
use Rattle.std.proofs.Common.{◌≡◌, ◌≢◌, ◌⊎◌, inl, inr, ℕ, ◌&&◌, ◌||◌, Bool, true, false, List, [], ◌∷◌, length, Option, Some, None, refl, sym, ap, subst, ◌∙◌}
use Rattle.std.proofs.lemmas.Bool.{and_parts, or_left}
use Rattle.std.specs.List.{list_all, list_any}
use Rattle.std.specs.Prelude.{ℤ, pos}
use Rattle.law_operands_fetched.proofs.rtx_tree.Trees.{kids_of-tree, same_parts}
use Rattle.law_operands_fetched.specs.rtx_tree.Code.{class_of_code, is_effect_class}
use Rattle.law_operands_fetched.specs.rtx_tree.Tree.{RtxHead, head_of, kids_of}
use Rattle.law_operands_fetched.specs.rtx_tree.declared.class.Class.TheVariants as class
use Rattle.law_operands_fetched.specs.rtx_tree.declared.code.Code.{Code}
use Rattle.law_operands_fetched.specs.rtx_tree.declared.code.Code.TheVariants as code
use Rattle.law_operands_fetched.specs.rtx_tree.declared.function.Kind.{Kind}
use Rattle.law_operands_fetched.specs.rtx_tree.declared.function.Kind.TheVariants as kinds
use Rattle.law_operands_fetched.specs.rtx_tree.declared.machine.SymbolAt.{SymbolAt}
use Rattle.law_operands_fetched.specs.rtx_tree.declared.memories.MemByte.{MemByte}
use Rattle.law_operands_fetched.specs.rtx_tree.declared.tree.Rtx.{Rtx}
use Rattle.law_operands_fetched.specs.rtl_func.Shapes.{class_at, is_effect, is_shaped}
use Rattle.law_operands_fetched.proofs.rtl_func.AllPass as nodes
use Rattle.law_operands_fetched.proofs.rtl_func.AllPass.{all_pass}
use Rattle.law_operands_fetched.specs.rtl_step.Call.{is_result, is_result_by, target_value}
use Rattle.law_operands_fetched.specs.rtl_step.Regs.{Regs}
use Rattle.law_operands_fetched.specs.md_constr.Inputs as inputs
use Rattle.law_operands_fetched.specs.md_match.Pattern.{Ops, role_of}
use Rattle.law_operands_fetched.specs.md_match.declared.role.Role.{Role}
use Rattle.law_operands_fetched.specs.md_match.declared.role.Role.TheVariants.{Operand, Operator, Itself}
use Rattle.law_operands_fetched.specs.assign.declared.home.HomeOf.{HomeOf}
use Rattle.law_operands_fetched.specs.assign.declared.places.Layout.{Layout}
use Rattle.law_operands_fetched.specs.reload_homes.Homes.{homed}
use Rattle.law_operands_fetched.specs.reload_operands.Put.{parts_by, put}
use Rattle.law_operands_fetched.specs.reload_moves.Registers as moves
use Rattle.law_operands_fetched.specs.reload_choice.Movable.{is_plain, may_have_results}
use Rattle.law_operands_fetched.specs.reload_choice.Sound.{IsPart, IsSoundPlan}
use Rattle.law_operands_fetched.specs.reload_choice.declared.given.Plan.{Plan}
use Rattle.law_operands_fetched.specs.law_operands_replaced.Places.{itself}
use Rattle.law_reload_moves.proofs.CallValues.{IsCall, IsTarget, call_is}
use Rattle.law_reload_moves.proofs.CallValues as call
use Rattle.law_operands_fetched.proofs.law_operands_replaced.Calling.{SameResult}
use Rattle.law_reload_moves.proofs.Chosen.{given}
use Rattle.law_operands_fetched.proofs.law_operands_replaced.ElementTurns.{NewFor, stays_for, moves_for, part_new, key_by, target_key, key_of, memory_code_of}
use Rattle.law_operands_fetched.proofs.Fetching.{Fetching}
use Rattle.law_reload_moves.proofs.GivenBeside.{first_of}
use Rattle.law_reload_moves.proofs.GivenNews.{own, mode, tree, result_at, Reads, Lost, Free, IsResultAt, operand_of}
use Rattle.law_operands_fetched.proofs.law_operands_replaced.HiddenTurns.{Read, effect_over}
use Rattle.law_operands_fetched.proofs.law_operands_replaced.InsnTurns.{operator_becomes, operand_stays, two_of}
use Rattle.law_operands_fetched.proofs.law_operands_replaced.JumpTrees.{is_bare_class, bare_kids}
use Rattle.law_operands_fetched.proofs.law_operands_replaced.NewTrees.{Becomes, AllBecome, is_whole}
use Rattle.law_operands_fetched.proofs.law_operands_replaced.NewTrees as trees
use Rattle.law_reload_moves.proofs.OtherInner.{TurnsInto, g, x, y, all_news, o, kn, Into, beside, head_is, target_same, set_into, operator_into, operand_into, call_into}
use Rattle.law_operands_fetched.proofs.law_operands_replaced.PutParts.{each_put, over_is}
use Rattle.law_reload_moves.proofs.ResultKeys.{keyed_result}
use Rattle.law_reload_moves.proofs.TakenPlaces.{IsEffectOf}
use Rattle.law_reload_moves.proofs.TakenThere.{IsAt}

result_register : (c : Code) (n : ℕ) → is_result_by c n ≡ true → c ≡ code.Reg
result_register code.Reg n is = refl
result_register _ n is = absurd (let no : ⊥ = cc in no)

plain_kind : (k : Kind) → is_plain k ≡ true → k ≡ kinds.Plain
plain_kind kinds.Plain is = refl
plain_kind _ is = absurd (let no : ⊥ = cc in no)

-- nothing is moved behind what isn't plain
pub plan_results : (homes : List HomeOf) (layout : Layout) (kind : Kind) (w pattern : Rtx) (found : Ops) (plan : Plan) →
    IsSoundPlan (given homes layout kind w pattern found plan) plan → (kind ≡ kinds.Plain → ⊥) → (j : ℕ) → IsResultAt plan j → ⊥
plan_results homes layout kind w pattern found plan sound not_plain j r =
    let e = operand_of homes layout kind w pattern found plan sound j r.p r.stands in
    let part : IsPart (given homes layout kind w pattern found plan) plan j r.p e.x = record { stands = r.stands; of = e.of } in
    let may = sound.results j r.p e.x part r.is in
    not_plain (plain_kind kind (and_parts (is_plain kind) _ (and_parts (may_have_results kind (given homes layout kind w pattern found plan).whole) _ may).0).0)

module _ (homes : List HomeOf) (layout : Layout) (kind : Kind) (w pattern : Rtx) (found : Ops) (plan : Plan)
    (symbols : List SymbolAt) (regs : Regs) (m : List MemByte) (sp : ℕ)
    (f : Fetching symbols regs m sp (given homes layout kind w pattern found plan) plan)
    (at : IsAt homes layout found pattern w (homed homes layout w)) (whole : all_pass is_whole (homed homes layout w) ≡ true)
    (not_plain : kind ≡ kinds.Plain → ⊥) where
  abbrev X : Rtx
  X = homed homes layout w

  abbrev Y : Rtx
  Y = y homes layout kind w pattern found plan symbols regs m sp f at whole

  abbrev News : Ops
  News = all_news homes layout kind w pattern found plan symbols regs m sp f at whole

  no_results : (j : ℕ) → IsResultAt plan j → ⊥
  no_results j r = plan_results homes layout kind w pattern found plan f.sound not_plain j r

  -- a call with new trees, and its result where it stood
  pub record CallInto : Type 1 where
    pub into : TurnsInto symbols regs (o homes layout kind w pattern found plan symbols regs m sp f at whole) m X Y
    pub same : SameResult X Y

  module _ (effect' : is_effect Y ≡ true) (shaped_x : all_pass is_shaped X ≡ true) where
    not_set : (head_of X).code ≢ code.Set → SameResult X Y
    not_set other is = absurd (other is)

    same_tree : Y ≡ X → SameResult X Y
    same_tree same is p s p' s' are are' = let e : p' ∷ s' ∷ [] ≡ p ∷ s ∷ [] = sym are' ∙ ap kids_of same ∙ are in cc

    set_call : (t s : Rtx) → (head_of X).code ≡ code.Set → kids_of X ≡ t ∷ s ∷ [] → is_result t ≡ true → is_effect X ≡ true → role_of (head_of pattern).code ≡ Itself → CallInto
    set_call t s x_set are' result effect role =
        let h = head_is homes layout kind w pattern found plan symbols regs m sp f at whole effect role in
        let p_set : (head_of pattern).code ≡ code.Set = ap (λ (h : RtxHead). h.code) (sym h.0) ∙ x_set in
        let two = two_of (kids_of pattern) (h.1 ∙ ap length are') in
        let differ : role_of (head_of pattern).code ≢ Operand = λ e. (let no : Itself ≡ Operand = sym role ∙ e in let never : ⊥ = cc in never) in
        let made = over_is pattern News X differ in
        let kids : kids_of Y ≡ put two.0 News t ∷ put two.1.0 News s ∷ [] =
        ap kids_of made ∙ kids_of-tree (head_of X) (parts_by (each_put (kids_of pattern) News) (kids_of X)) ∙
        ap (λ ps. parts_by (each_put ps News) (kids_of X)) two.1.1 ∙ ap (parts_by (each_put (two.0 ∷ two.1.0 ∷ []) News)) are' in
        let is_reg : (head_of t).code ≡ code.Reg = result_register (head_of t).code _ result in
        let shaped_t = (and_parts (all_pass is_shaped t) _ (ap (list_all (all_pass is_shaped)) (sym are') ∙ nodes.within is_shaped X shaped_x)).0 in
        let bare = bare_kids t (ap (λ c. is_bare_class (class_of_code c)) is_reg) (nodes.itself is_shaped t shaped_t) in
        let not_one : (head_of pattern).code ≢ code.Parallel = λ e. (let no : code.Set ≡ code.Parallel = sym p_set ∙ e in let never : ⊥ = cc in never) in
        let bs = beside homes layout kind w pattern found plan symbols regs m sp f at whole effect not_one in
        let long : length (kids_of pattern) ≡ length (kids_of X) = ap length two.1.1 ∙ sym (ap length are') in
        let new_a = part_new symbols regs (o homes layout kind w pattern found plan symbols regs m sp f at whole) m
        (kn homes layout kind w pattern found plan symbols regs m sp f at whole) _ _ _ _ _ News _ _ pattern X two.0 t differ long
        (first_of two.0 two.1.0 t s (kids_of pattern) (kids_of X) two.1.1 are') bs.new in
        let same = target_same homes layout kind w pattern found plan symbols regs m sp f at whole two.0 t bare
        (λ r operand has. none_new two.0 two.1.0 t r p_set two.1.1 operand is_reg (new_a (head_of two.0).number t r (itself two.0 t operand) has)) in
        record {
          into = set_into homes layout kind w pattern found plan symbols regs m sp f at whole two.0 two.1.0 t s effect p_set two.1.1 are' same;
          same = λ is p s' p' s'' are_x are_y.
              let first_x : t ≡ p = (let e : t ∷ s ∷ [] ≡ p ∷ s' ∷ [] = sym are' ∙ are_x in cc) in
              let first_y : put two.0 News t ≡ p' = (let e : put two.0 News t ∷ put two.1.0 News s ∷ [] ≡ p' ∷ s'' ∷ [] = sym kids ∙ are_y in cc) in
              sym first_y ∙ same ∙ first_x;
        }
      where
        alone_effect : (head_of pattern).code ≡ code.Set → IsEffectOf pattern pattern
        alone_effect is test passes = ap (λ c. list_any test (inputs.effects_by c pattern (kids_of pattern))) is ∙ or_left (test pattern) false passes

        none_new : (a b t r : Rtx) → (head_of pattern).code ≡ code.Set → kids_of pattern ≡ a ∷ b ∷ [] → role_of (head_of a).code ≡ Operand → (head_of t).code ≡ code.Reg →
            NewFor symbols regs (o homes layout kind w pattern found plan symbols regs m sp f at whole) m
            (kn homes layout kind w pattern found plan symbols regs m sp f at whole) (own homes layout kind w pattern found plan) (mode homes layout kind w pattern found plan)
            (tree homes layout kind w pattern found plan) (Free homes layout kind w pattern found plan) (result_at homes layout kind w pattern found plan) News
            (Reads homes layout kind w pattern found plan) (Lost homes layout kind w pattern found plan) (head_of a).number t r → ⊥
        none_new a b t r p_set are operand is_reg (stays_for is (inl place) none) =
            let a' = is.address place in
            let is_mem = memory_code_of (head_of t).code (kids_of t) a'.first a'.first_is in
            let no : code.Reg ≡ code.Mem = sym is_reg ∙ is_mem in let never : ⊥ = cc in never
        none_new a b t r p_set are operand is_reg (stays_for is (inr binary) none) =
            let no : class.Register ≡ class.Binary = sym (ap class_of_code is_reg) ∙ binary in let never : ⊥ = cc in never
        none_new a b t r p_set are operand is_reg (moves_for k tree_is reg_is spare here modes may lost) =
            let key : key_of (result_at homes layout kind w pattern found plan) pattern ≡ Some k =
            ap (λ c. key_by (result_at homes layout kind w pattern found plan) c (kids_of pattern)) p_set ∙
            ap (key_by (result_at homes layout kind w pattern found plan) code.Set) are ∙
            ap (λ r. target_key (result_at homes layout kind w pattern found plan) r (head_of a).number) operand ∙ here in
            no_results k (keyed_result homes layout kind w pattern found plan f.sound pattern k (alone_effect p_set) key)

    itself_call : (mem size addr : Rtx) → IsTarget symbols regs m X mem size addr → is_effect X ≡ true → role_of (head_of pattern).code ≡ Itself → CallInto
    itself_call mem size addr t effect role =
        let h = head_is homes layout kind w pattern found plan symbols regs m sp f at whole effect role in
        let p_call : (head_of pattern).code ≡ code.Call = ap (λ (h : RtxHead). h.code) (sym h.0) ∙ t.code_is in record {
          into = call_into homes layout kind w pattern found plan symbols regs m sp f at whole effect p_call;
          same = not_set (λ e. let no : code.Call ≡ code.Set = sym t.code_is ∙ e in let never : ⊥ = cc in never);
        }

    -- a register that is read as itself is the same
    register_same : (t t' : Rtx) → Becomes (Read symbols regs (o homes layout kind w pattern found plan symbols regs m sp f at whole) m
        (kn homes layout kind w pattern found plan symbols regs m sp f at whole)) t t' → (head_of t).code ≡ code.Reg → kids_of t ≡ [] → t' ≡ t
    register_same _ _ (trees.same t) is_reg bare = refl
    register_same _ _ (trees.new t t' n) is_reg bare = by n.place
      where
        by : (class_at t' ≡ class.Memory) ⊎ (class_at t ≡ class.Binary) → t' ≡ t
        by (inl place) =
            let a' = n.new.address place in
            let is_mem = memory_code_of (head_of t).code (kids_of t) a'.first a'.first_is in
            absurd (let no : code.Reg ≡ code.Mem = sym is_reg ∙ is_mem in let never : ⊥ = cc in never)
        by (inr binary) = absurd (let no : class.Register ≡ class.Binary = sym (ap class_of_code is_reg) ∙ binary in let never : ⊥ = cc in never)
    register_same _ _ (trees.over t t' head low all) is_reg bare = same_parts t' t head (none_become (kids_of t) (kids_of t') all bare ∙ sym bare)
      where
        none_become : (us vs : List Rtx) → AllBecome (Read symbols regs (o homes layout kind w pattern found plan symbols regs m sp f at whole) m
            (kn homes layout kind w pattern found plan symbols regs m sp f at whole)) us vs → us ≡ [] → vs ≡ []
        none_become _ _ trees.none is = refl
        none_become _ _ (trees.next a b us vs c more) is = absurd (let no : ⊥ = cc in no)

    first_becomes : (us vs : List Rtx) (t s p' s' : Rtx) → AllBecome (Read symbols regs (o homes layout kind w pattern found plan symbols regs m sp f at whole) m
        (kn homes layout kind w pattern found plan symbols regs m sp f at whole)) us vs → us ≡ t ∷ s ∷ [] → vs ≡ p' ∷ s' ∷ [] →
        Becomes (Read symbols regs (o homes layout kind w pattern found plan symbols regs m sp f at whole) m
        (kn homes layout kind w pattern found plan symbols regs m sp f at whole)) t p'
    first_becomes _ _ t s p' s' trees.none is is' = absurd (let no : ⊥ = cc in no)
    first_becomes _ _ t s p' s' (trees.next a b us vs c more) is is' =
        let one : a ≡ t = cc in let two : b ≡ p' = cc in
        subst (λ z. Becomes (Read symbols regs (o homes layout kind w pattern found plan symbols regs m sp f at whole) m
        (kn homes layout kind w pattern found plan symbols regs m sp f at whole)) t z) two
        (subst (λ z. Becomes (Read symbols regs (o homes layout kind w pattern found plan symbols regs m sp f at whole) m
        (kn homes layout kind w pattern found plan symbols regs m sp f at whole)) z b) one c)

    hidden_same : IsCall symbols regs m X → Becomes (Read symbols regs (o homes layout kind w pattern found plan symbols regs m sp f at whole) m
        (kn homes layout kind w pattern found plan symbols regs m sp f at whole)) X Y → SameResult X Y
    hidden_same (call.itself mem size addr t) becomes is p s' p' s'' are_x are_y = absurd (let no : code.Call ≡ code.Set = sym t.code_is ∙ is in let never : ⊥ = cc in never)
    hidden_same (call.sets t s mem size addr x_set are result target) becomes is p s' p' s'' are_x are_y =
        let over = effect_over symbols regs (o homes layout kind w pattern found plan symbols regs m sp f at whole) m
        (kn homes layout kind w pattern found plan symbols regs m sp f at whole) X Y becomes effect' in
        let first_x : t ≡ p = (let e : t ∷ s ∷ [] ≡ p ∷ s' ∷ [] = sym are ∙ are_x in cc) in
        let is_reg : (head_of t).code ≡ code.Reg = result_register (head_of t).code _ result in
        let shaped_t = (and_parts (all_pass is_shaped t) _ (ap (list_all (all_pass is_shaped)) (sym are) ∙ nodes.within is_shaped X shaped_x)).0 in
        let bare = bare_kids t (ap (λ c. is_bare_class (class_of_code c)) is_reg) (nodes.itself is_shaped t shaped_t) in
        register_same t p' (first_becomes (kids_of X) (kids_of Y) t s p' s'' over.parts are are_y) is_reg bare ∙ first_x

    operator_call : IsCall symbols regs m X → is_effect X ≡ true → role_of (head_of pattern).code ≡ Operator → CallInto
    operator_call is effect role =
        let bs = beside homes layout kind w pattern found plan symbols regs m sp f at whole effect
        (λ e. let no : Operator ≡ Itself = sym role ∙ ap role_of e in let never : ⊥ = cc in never) in
        let becomes = operator_becomes symbols regs (o homes layout kind w pattern found plan symbols regs m sp f at whole) m
        (kn homes layout kind w pattern found plan symbols regs m sp f at whole) _ _ _ _ _ News _ _ _ pattern X bs role whole in record {
          into = operator_into homes layout kind w pattern found plan symbols regs m sp f at whole effect role;
          same = hidden_same is becomes;
        }

    operand_call : is_effect X ≡ true → role_of (head_of pattern).code ≡ Operand → CallInto
    operand_call effect role =
        let bs = beside homes layout kind w pattern found plan symbols regs m sp f at whole effect
        (λ e. let no : Operand ≡ Itself = sym role ∙ ap role_of e in let never : ⊥ = cc in never) in
        let stays = operand_stays symbols regs (o homes layout kind w pattern found plan symbols regs m sp f at whole) m
        (kn homes layout kind w pattern found plan symbols regs m sp f at whole) _ _ _ _ _ News _ _ _ pattern X bs role effect' in record {
          into = operand_into homes layout kind w pattern found plan symbols regs m sp f at whole effect effect' role;
          same = same_tree stays;
        }

    -- a call with new trees put in
    pub call_turns : (n : ℕ) → target_value symbols regs m X ≡ Some n → CallInto
    call_turns n does = by (call_is symbols regs m X n does)
      where
        by_role : IsCall symbols regs m X → is_effect X ≡ true → (role_of (head_of pattern).code ≡ Itself → CallInto) → (r : Role) → role_of (head_of pattern).code ≡ r → CallInto
        by_role is effect it Itself role = it role
        by_role is effect it Operator role = operator_call is effect role
        by_role is effect it Operand role = operand_call effect role

        by : IsCall symbols regs m X → CallInto
        by (call.itself mem size addr t) =
            let effect : is_effect X ≡ true = ap (λ c. is_effect_class (class_of_code c)) t.code_is in
            by_role (call.itself mem size addr t) effect (itself_call mem size addr t effect) (role_of (head_of pattern).code) refl
        by (call.sets t s mem size addr x_set are result target) =
            let effect : is_effect X ≡ true = ap (λ c. is_effect_class (class_of_code c)) x_set in
            by_role (call.sets t s mem size addr x_set are result target) effect (set_call t s x_set are result effect) (role_of (head_of pattern).code) refl
