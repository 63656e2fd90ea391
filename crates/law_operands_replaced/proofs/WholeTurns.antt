-- The effects of a whole instruction with new trees put in.
use Rattle.std.proofs.Common.{◌≡◌, ◌≢◌, ◌⊎◌, inl, inr, ℕ, ◌||◌, Bool, true, false, List, [], ◌∷◌, length, map, Option, Some, None, refl, sym, ap, subst, ◌∙◌, arith}
use Rattle.std.specs.List.{list_all, list_any}
use Rattle.std.specs.Prelude.{ℤ, option_map, option_and_then}
use Rattle.std.proofs.lemmas.Bool.{and_parts}
use Rattle.rtx_tree.proofs.Trees.{head_of-tree, kids_of-tree}
use Rattle.rtx_tree.specs.Code.{class_of_code, is_effect_class}
use Rattle.rtx_tree.specs.Tree.{RtxHead, head_of, kids_of, mentions_reg}
use Rattle.rtx_tree.specs.declared.code.Code.{Code}
use Rattle.rtx_tree.specs.declared.code.Code.TheVariants as code
use Rattle.rtx_tree.specs.declared.code.Mode.{Mode}
use Rattle.rtx_tree.specs.declared.machine.SymbolAt.{SymbolAt}
use Rattle.rtx_tree.specs.declared.memories.MemByte.{MemByte}
use Rattle.rtx_tree.specs.declared.tree.Rtx.{Rtx}
use Rattle.rtl_func.specs.Kinds.{is_plain_tree}
use Rattle.rtl_func.specs.Shapes.{is_effect, is_shaped}
use Rattle.rtl_func.proofs.AllPass as nodes
use Rattle.rtl_func.proofs.AllPass.{all_pass}
use Rattle.rtl_step.specs.Effect.{effect_of, all_effects, one_effect, effects_of, effects_by}
use Rattle.rtl_step.specs.Regs.{Regs}
use Rattle.rtl_step.specs.declared.effect.Effect.{Effect}
use Rattle.sym_insns.specs.Shape.{all_natural}
use Rattle.md_constr.specs.Inputs as inputs
use Rattle.md_match.specs.Pattern.{Ops, role_of, operand_numbered}
use Rattle.md_match.specs.declared.role.Role.{Role}
use Rattle.md_match.specs.declared.role.Role.TheVariants.{Operand, Operator, Itself}
use Rattle.reload_operands.specs.Put.{each_by, parts_by, put}
use Rattle.law_frame.proofs.law_window_replaced.Known.{both_of, or_first, or_later}
use Rattle.law_frame.proofs.law_window_replaced.Trees.{natural_kids, mentions_kid}
use Rattle.law_operands_replaced.specs.Places.{AtOnePlace, first, later}
use Rattle.law_operands_replaced.specs.Spare.{KnowsRest}
use Rattle.law_operands_replaced.proofs.ElementTurns.{effect_code, key_of}
use Rattle.law_operands_replaced.proofs.HiddenTurns.{Read, effect_over}
use Rattle.law_operands_replaced.proofs.InsnTurns.{effect_codes, effects_are, IsBeside, operator_becomes, operand_stays, element_turns, stays_turns}
use Rattle.law_operands_replaced.proofs.Keying as keying
use Rattle.law_operands_replaced.proofs.Keying.{AllTurnedAs, HasAllKeyed, all_keyed, one_keyed_alone}
use Rattle.law_operands_replaced.proofs.NewTrees.{Becomes, AllBecome, is_whole}
use Rattle.law_operands_replaced.proofs.NewTrees as trees
use Rattle.law_operands_replaced.proofs.PutParts.{each_put, over_is, parts_are}
use Rattle.law_operands_replaced.proofs.ReadTrees.{NameNoSpare}
use Rattle.law_operands_replaced.proofs.SetTurns.{Fit}

-- a parallel, or another code
pub is_parallel : (c : Code) → (c ≡ code.Parallel) ⊎ (c ≢ code.Parallel)
is_parallel code.Parallel = inl refl
is_parallel _ = inr (λ e. let no : ⊥ = cc in no)

-- none is moved
abbrev pub AllNone : List (Option ℕ) → Type 0
AllNone [] = Unit {0}
AllNone (key ∷ keys) = (key ≡ None) × AllNone keys

-- what is asked of some trees and of what they become
pub record AllFit (xs ys : List Rtx) : Type 0 where
  pub natural : list_all all_natural xs ≡ true
  pub quiet : NameNoSpare xs
  pub whole : list_all (all_pass is_whole) xs ≡ true
  pub shaped : list_all (all_pass is_shaped) ys ≡ true
  pub plain : list_all (all_pass is_plain_tree) ys ≡ true
  pub effects : list_all is_effect ys ≡ true

pub first_fit : (x y : Rtx) (xs ys : List Rtx) → AllFit (x ∷ xs) (y ∷ ys) → Fit x y
first_fit x y xs ys fit = record {
  natural = (both_of (all_natural x) _ fit.natural).0;
  quiet = λ reg is. fit.quiet reg (or_first (mentions_reg reg x) _ is);
  shaped = (both_of (all_pass is_shaped y) _ fit.shaped).0;
  plain = (both_of (all_pass is_plain_tree y) _ fit.plain).0;
}

pub rest_fit : (x y : Rtx) (xs ys : List Rtx) → AllFit (x ∷ xs) (y ∷ ys) → AllFit xs ys
rest_fit x y xs ys fit = record {
  natural = (both_of (all_natural x) _ fit.natural).1;
  quiet = λ reg is. fit.quiet reg (or_later (mentions_reg reg x) _ is);
  whole = (both_of (all_pass is_whole x) _ fit.whole).1;
  shaped = (both_of (all_pass is_shaped y) _ fit.shaped).1;
  plain = (both_of (all_pass is_plain_tree y) _ fit.plain).1;
  effects = (both_of (is_effect y) _ fit.effects).1;
}

pub kids_fit : (x y : Rtx) → Fit x y → all_pass is_whole x ≡ true → list_all is_effect (kids_of y) ≡ true → AllFit (kids_of x) (kids_of y)
kids_fit x y fit whole effects = record {
  natural = natural_kids x fit.natural;
  quiet = λ reg is. fit.quiet reg (mentions_kid x reg is);
  whole = nodes.within is_whole x whole;
  shaped = nodes.within is_shaped y fit.shaped;
  plain = nodes.within is_plain_tree y fit.plain;
  effects = effects;
}

pub front_is : (o : Option Effect) (rest : Option (List Effect)) (es : List Effect) → option_and_then (λ e. option_map (λ es. e ∷ es) rest) o ≡ Some es →
    (e : Effect) × ((more : List Effect) × ((o ≡ Some e) × (rest ≡ Some more)))
front_is None rest es is = absurd (let no : ⊥ = cc in no)
front_is (Some e) None es is = absurd (let no : ⊥ = cc in no)
front_is (Some e) (Some more) es is = (e, (more, (refl, refl)))

pub alone_is : (o : Option Effect) (es : List Effect) → option_map (λ (e : Effect). e ∷ []) o ≡ Some es → (e : Effect) × (o ≡ Some e)
alone_is None es is = absurd (let no : ⊥ = cc in no)
alone_is (Some e) es is = (e, refl)

-- an instruction that has effects is an effect
pub effects_exist : (symbols : List SymbolAt) (regs : Regs) (m : List MemByte) (x : Rtx) (es : List Effect) → effects_of symbols regs m x ≡ Some es → is_effect x ≡ true
effects_exist symbols regs m x es does = elim (is_parallel (head_of x).code) [
  | inl is ↦ ap (λ c. is_effect_class (class_of_code c)) is
  | inr not_one ↦
      let e = alone_is (effect_of symbols regs m x) es (sym (one_is (head_of x).code not_one) ∙ does) in
      elim (effect_code (head_of x).code (kids_of x) symbols regs m e.0 e.1) [
        | inl s ↦ effect_codes (head_of x).code (inl s.0)
        | inr more ↦ elim more [
          | inl u ↦ effect_codes (head_of x).code (inr (inl u.0))
          | inr c ↦ effect_codes (head_of x).code (inr (inr c.0))
        ]
      ]
]
  where
    one_is : (c : Code) → c ≢ code.Parallel → effects_by c x symbols regs m ≡ one_effect symbols regs m x
    one_is code.Parallel other = absurd (other refl)
    one_is _ other = refl

module _ (symbols : List SymbolAt) (regs other : Regs) (m : List MemByte) (known : KnowsRest regs other)
    (own : ℕ → ℕ) (mode : ℕ → Mode) (tree : ℕ → Rtx) (Free : ℕ → Type 0) (result_at : ℤ → Option ℕ) (news : Ops) (Reads Lost : ℤ → Type 0)
    (none_new : (number : ℤ) → operand_numbered news number ≡ None → result_at number ≡ None) where
  abbrev Beside : Rtx → Rtx → Type 0
  Beside q x = IsBeside symbols regs other m known own mode tree Free result_at news Reads Lost none_new q x

  abbrev Turned : List (Option ℕ) → List Rtx → List Rtx → Type 0
  Turned keys xs ys = AllTurnedAs symbols regs other m own mode tree Free keys xs ys

  abbrev Keys : List (Option ℕ) → List Effect → Option (List Effect) → Type 0
  Keys keys es made = HasAllKeyed symbols regs other m own mode tree Free keys es made

  -- the elements of a parallel, each beside one of the pattern's
  pub lists_turn : (qs xs : List Rtx) (es : List Effect) → length qs ≡ length xs → ((q x : Rtx) → AtOnePlace qs xs q x → Beside q x) →
      AllFit xs (each_by (each_put qs news) xs) → all_effects symbols regs m xs ≡ Some es →
      Turned (map (key_of result_at) qs) xs (each_by (each_put qs news) xs)
  lists_turn [] [] es long beside fit does = keying.none
  lists_turn [] (x ∷ xs) es long beside fit does = absurd (omega (arith, long))
  lists_turn (q ∷ qs) [] es long beside fit does = absurd (omega (arith, long))
  lists_turn (q ∷ qs) (x ∷ xs) es long beside fit does =
      let parts = front_is (effect_of symbols regs m x) (all_effects symbols regs m xs) es does in
      keying.next (key_of result_at q) (map (key_of result_at) qs) x (put q news x) xs (each_by (each_put qs news) xs)
      (element_turns symbols regs other m known own mode tree Free result_at news Reads Lost none_new q x parts.0 (beside q x (first q x qs xs))
      (first_fit x (put q news x) xs (each_by (each_put qs news) xs) fit) (both_of (all_pass is_whole x) _ fit.whole).0
      (both_of (is_effect (put q news x)) _ fit.effects).0 parts.1.1.0)
      (lists_turn qs xs parts.1.0 (let fewer : length qs ≡ length xs = omega (arith, long) in fewer)
      (λ p y at. beside p y (later p y q x qs xs at)) (rest_fit x (put q news x) xs (each_by (each_put qs news) xs) fit) parts.1.1.1)

  -- of a parallel for which an operator stands
  pub record NoneTurned (xs ys : List Rtx) : Type 0 where
    pub keys : List (Option ℕ)
    pub none : AllNone keys
    pub turned : Turned keys xs ys

  pub hidden_turn : (xs ys : List Rtx) → AllBecome (Read symbols regs other m known) xs ys → AllFit xs ys → NoneTurned xs ys
  hidden_turn _ _ trees.none fit = record { keys = []; none = tt; turned = keying.none }
  hidden_turn _ _ (trees.next x y xs ys becomes more) fit =
      let rest = hidden_turn xs ys more (rest_fit x y xs ys fit) in record {
        keys = None ∷ rest.keys;
        none = (refl, rest.none);
        turned = keying.next None rest.keys x y xs ys
            (stays_turns symbols regs other m known own mode tree Free result_at news Reads Lost none_new x y becomes (first_fit x y xs ys fit)
            (both_of (all_pass is_whole x) _ fit.whole).0 (both_of (is_effect y) _ fit.effects).0) rest.turned;
      }

  -- ---- an instruction

  -- a whole pattern beside an instruction
  pub record IsWholeBeside (p x : Rtx) : Type 0 where
    pub head_is : role_of (head_of p).code ≡ Itself → is_effect x ≡ true → (head_of x ≡ head_of p) × (length (kids_of p) ≡ length (kids_of x))
    pub alone : (head_of p).code ≢ code.Parallel → Beside p x
    pub each : (head_of p).code ≡ code.Parallel → (q z : Rtx) → AtOnePlace (kids_of p) (kids_of x) q z → Beside q z

  -- its effects, by the operands whose results they are: those of the pattern's effects, or none
  pub record InsnKeyed (p x : Rtx) (es : List Effect) : Type 0 where
    pub keys : List (Option ℕ)
    pub keyed : Keys keys es (effects_of symbols other m (put p news x))
    pub which : (keys ≡ map (key_of result_at) (inputs.effects_of p)) ⊎ AllNone keys
    pub itself : role_of (head_of p).code ≡ Itself → keys ≡ map (key_of result_at) (inputs.effects_of p)

  parallel_effects : (rs : Regs) (x : Rtx) → (head_of x).code ≡ code.Parallel → effects_of symbols rs m x ≡ all_effects symbols rs m (kids_of x)
  parallel_effects rs x is = ap (λ c. effects_by c x symbols rs m) is

  other_effects : (rs : Regs) (x : Rtx) → (head_of x).code ≢ code.Parallel → effects_of symbols rs m x ≡ one_effect symbols rs m x
  other_effects rs x other' = by (head_of x).code other'
    where
      by : (c : Code) → c ≢ code.Parallel → effects_by c x symbols rs m ≡ one_effect symbols rs m x
      by code.Parallel other' = absurd (other' refl)
      by _ other' = refl

  pattern_parallel : (p : Rtx) → (head_of p).code ≡ code.Parallel → inputs.effects_of p ≡ kids_of p
  pattern_parallel p is = ap (λ c. inputs.effects_by c p (kids_of p)) is

  pattern_other : (p : Rtx) → (head_of p).code ≢ code.Parallel → inputs.effects_of p ≡ p ∷ []
  pattern_other p other' = by (head_of p).code other'
    where
      by : (c : Code) → c ≢ code.Parallel → inputs.effects_by c p (kids_of p) ≡ p ∷ []
      by code.Parallel other' = absurd (other' refl)
      by _ other' = refl

  parallel_keyed : (p x : Rtx) (es : List Effect) → (head_of p).code ≡ code.Parallel → IsWholeBeside p x → Fit x (put p news x) → all_pass is_whole x ≡ true →
      effects_of symbols regs m x ≡ Some es → InsnKeyed p x es
  parallel_keyed p x es is b fit whole does =
      let role : role_of (head_of p).code ≡ Itself = ap role_of is in
      let differ : role_of (head_of p).code ≢ Operand = λ o. let no : Itself ≡ Operand = sym role ∙ o in let never : ⊥ = cc in never in
      let h = b.head_is role (effects_exist symbols regs m x es does) in
      let x_is : (head_of x).code ≡ code.Parallel = ap (λ (h : RtxHead). h.code) h.0 ∙ is in
      let made = over_is p news x differ in
      let y_is : (head_of (put p news x)).code ≡ code.Parallel =
      ap (λ (h : RtxHead). h.code) (ap head_of made ∙ head_of-tree (head_of x) (parts_by (each_put (kids_of p) news) (kids_of x))) ∙ x_is in
      let kids : kids_of (put p news x) ≡ each_by (each_put (kids_of p) news) (kids_of x) =
      ap kids_of made ∙ kids_of-tree (head_of x) (parts_by (each_put (kids_of p) news) (kids_of x)) ∙ parts_are (kids_of p) news (kids_of x) h.1 in
      let fits = subst (AllFit (kids_of x)) kids (kids_fit x (put p news x) fit whole (effects_are (put p news x) y_is (nodes.itself is_shaped (put p news x) fit.shaped))) in
      record {
        keys = map (key_of result_at) (kids_of p);
        keyed = subst (Keys (map (key_of result_at) (kids_of p)) es) (sym (parallel_effects other (put p news x) y_is))
            (all_keyed symbols regs other m own mode tree Free (map (key_of result_at) (kids_of p)) (kids_of x) (kids_of (put p news x))
            (subst (Turned (map (key_of result_at) (kids_of p)) (kids_of x)) (sym kids)
            (lists_turn (kids_of p) (kids_of x) es h.1 (b.each is) fits (sym (parallel_effects regs x x_is) ∙ does)))
            es (sym (parallel_effects regs x x_is) ∙ does));
        which = inl (ap (map (key_of result_at)) (sym (pattern_parallel p is)));
        itself = λ itself. ap (map (key_of result_at)) (sym (pattern_parallel p is));
      }

  -- one in which nothing is moved
  hidden_keyed : (p x : Rtx) (es : List Effect) → role_of (head_of p).code ≢ Itself → Becomes (Read symbols regs other m known) x (put p news x) → Fit x (put p news x) → all_pass is_whole x ≡ true →
      is_effect (put p news x) ≡ true → effects_of symbols regs m x ≡ Some es → InsnKeyed p x es
  hidden_keyed p x es placed becomes fit whole effect does =
      let o = effect_over symbols regs other m known x (put p news x) becomes effect in
      let same_code : (head_of (put p news x)).code ≡ (head_of x).code = ap (λ (h : RtxHead). h.code) o.head in
      elim (is_parallel (head_of x).code) [
        | inl is ↦
            let y_is = same_code ∙ is in
            let all = hidden_turn (kids_of x) (kids_of (put p news x)) o.parts
            (kids_fit x (put p news x) fit whole (effects_are (put p news x) y_is (nodes.itself is_shaped (put p news x) fit.shaped))) in record {
              keys = all.keys;
              keyed = subst (Keys all.keys es) (sym (parallel_effects other (put p news x) y_is))
                  (all_keyed symbols regs other m own mode tree Free all.keys (kids_of x) (kids_of (put p news x)) all.turned es (sym (parallel_effects regs x is) ∙ does));
              which = inr all.none;
              itself = λ itself. absurd (placed itself);
            }
        | inr not_one ↦ record {
          keys = None ∷ [];
          keyed = subst (Keys (None ∷ []) es) (sym (other_effects other (put p news x) (λ e. not_one (sym same_code ∙ e))))
              (one_keyed_alone symbols regs other m own mode tree Free None x (put p news x)
              (stays_turns symbols regs other m known own mode tree Free result_at news Reads Lost none_new x (put p news x) becomes fit whole effect)
              es (sym (other_effects regs x not_one) ∙ does));
          which = inr (refl, tt);
          itself = λ itself. absurd (placed itself);
        }
      ]

  single_keyed : (p x : Rtx) (es : List Effect) → (head_of p).code ≢ code.Parallel → role_of (head_of p).code ≡ Itself → IsWholeBeside p x → Fit x (put p news x) →
      all_pass is_whole x ≡ true → is_effect (put p news x) ≡ true → effects_of symbols regs m x ≡ Some es → InsnKeyed p x es
  single_keyed p x es not_one role b fit whole effect does =
      let differ : role_of (head_of p).code ≢ Operand = λ o. let no : Itself ≡ Operand = sym role ∙ o in let never : ⊥ = cc in never in
      let h = b.head_is role (effects_exist symbols regs m x es does) in
      let x_not : (head_of x).code ≢ code.Parallel = λ e. not_one (ap (λ (h : RtxHead). h.code) (sym h.0) ∙ e) in
      let same_code : (head_of (put p news x)).code ≡ (head_of x).code =
      ap (λ (h : RtxHead). h.code) (ap head_of (over_is p news x differ) ∙ head_of-tree (head_of x) (parts_by (each_put (kids_of p) news) (kids_of x))) in
      let e = alone_is (effect_of symbols regs m x) es (sym (other_effects regs x x_not) ∙ does) in
      record {
        keys = key_of result_at p ∷ [];
        keyed = subst (Keys (key_of result_at p ∷ []) es) (sym (other_effects other (put p news x) (λ e. x_not (sym same_code ∙ e))))
            (one_keyed_alone symbols regs other m own mode tree Free (key_of result_at p) x (put p news x)
            (element_turns symbols regs other m known own mode tree Free result_at news Reads Lost none_new p x e.0 (b.alone not_one) fit whole effect e.1)
            es (sym (other_effects regs x x_not) ∙ does));
        which = inl (ap (map (key_of result_at)) (sym (pattern_other p not_one)));
        itself = λ itself. ap (map (key_of result_at)) (sym (pattern_other p not_one));
      }

  -- the effects of an instruction with new trees put in, each by the operand whose result it is
  pub insn_keyed : (p x : Rtx) (es : List Effect) → IsWholeBeside p x → Fit x (put p news x) → all_pass is_whole x ≡ true → is_effect (put p news x) ≡ true →
      effects_of symbols regs m x ≡ Some es → InsnKeyed p x es
  insn_keyed p x es b fit whole effect does = elim (is_parallel (head_of p).code) [
    | inl is ↦ parallel_keyed p x es is b fit whole does
    | inr not_one ↦ by not_one (role_of (head_of p).code) refl
  ]
    where
      by : (head_of p).code ≢ code.Parallel → (r : Role) → role_of (head_of p).code ≡ r → InsnKeyed p x es
      by not_one Itself is = single_keyed p x es not_one is b fit whole effect does
      by not_one Operator is = hidden_keyed p x es (λ itself. let e : Operator ≡ Itself = sym is ∙ itself in let no : ⊥ = cc in no)
          (operator_becomes symbols regs other m known own mode tree Free result_at news Reads Lost none_new p x (b.alone not_one) is whole) fit whole effect does
      by not_one Operand is =
          let same = operand_stays symbols regs other m known own mode tree Free result_at news Reads Lost none_new p x (b.alone not_one) is effect in
          hidden_keyed p x es (λ itself. let e : Operand ≡ Itself = sym is ∙ itself in let no : ⊥ = cc in no) (subst (Becomes (Read symbols regs other m known) x) (sym same) (trees.same x)) fit whole effect does
