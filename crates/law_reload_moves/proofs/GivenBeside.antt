-- The effects of a pattern beside those of an instruction for which a plan is chosen.
use Rattle.std.proofs.Common.{◌≡◌, ◌≢◌, ◌⊎◌, inl, inr, ℕ, ◌&&◌, ◌||◌, Bool, true, false, List, [], ◌∷◌, length, Option, Some, None, refl, sym, ap, subst, ◌∙◌}
use Rattle.std.proofs.lemmas.Bool.{or_left, or_right}
use Rattle.std.specs.List.{list_any}
use Rattle.std.specs.Prelude.{ℤ, pos, slice_get, if◌then◌else◌}
use Rattle.law_operands_fetched.specs.rtx_tree.Tree.{RtxHead, head_of, kids_of}
use Rattle.law_operands_fetched.specs.rtx_tree.declared.code.Code.{Code}
use Rattle.law_operands_fetched.specs.rtx_tree.declared.code.Code.TheVariants as code
use Rattle.law_operands_fetched.specs.rtx_tree.declared.function.Kind.{Kind}
use Rattle.law_operands_fetched.specs.rtx_tree.declared.machine.SymbolAt.{SymbolAt}
use Rattle.law_operands_fetched.specs.rtx_tree.declared.memories.MemByte.{MemByte}
use Rattle.law_operands_fetched.specs.rtx_tree.declared.tree.Rtx.{Rtx}
use Rattle.law_operands_fetched.specs.rtl_func.Shapes.{is_effect, is_shaped}
use Rattle.law_operands_fetched.proofs.rtl_func.AllPass.{all_pass}
use Rattle.law_operands_fetched.specs.rtl_step.Regs.{Regs}
use Rattle.law_operands_fetched.specs.md_constr.Inputs.{effects_by, effects_of, operand_here, changed_whole, changed_at_by, changed_at, clobbered_by_parts, clobbered_by}
use Rattle.law_operands_fetched.specs.md_match.Pattern.{Ops, role_of, operand_numbered, instantiated}
use Rattle.law_operands_fetched.specs.md_match.declared.role.Role.TheVariants.{Operand, Operator, Itself}
use Rattle.law_operands_fetched.specs.assign.declared.home.HomeOf.{HomeOf}
use Rattle.law_operands_fetched.specs.assign.declared.places.Layout.{Layout}
use Rattle.law_operands_fetched.specs.reload_homes.Homes.{homed, register_numbered, register_by, register_at}
use Rattle.law_operands_fetched.proofs.reload_operands.NumberLaws.{has_in_each}
use Rattle.law_operands_fetched.specs.reload_operands.Directions.{has_number, is_operator_code, is_hidden}
use Rattle.law_operands_fetched.specs.reload_choice.Sound.{IsSoundPlan}
use Rattle.law_operands_fetched.specs.reload_choice.declared.given.Plan.{Plan}
use Rattle.law_operands_fetched.specs.law_operands_replaced.Places.{AtOnePlace, first, later, StandsFor, itself, part}
use Rattle.law_operands_fetched.specs.law_operands_replaced.Spare.{KnowsRest}
use Rattle.law_reload_moves.proofs.Besides.{itself_made, no_place, beside_head, part_beside, low_inside}
use Rattle.law_reload_moves.proofs.Chosen.{given, asks, news, known_of, IsNewAt, new_at}
use Rattle.law_reload_moves.proofs.GivenNews.{own, mode, tree, result_at, Reads, Lost, Free, AreFetched, new_is}
use Rattle.law_operands_fetched.proofs.law_operands_replaced.InsnTurns.{IsBeside}
use Rattle.law_reload_moves.proofs.Matched.{IsLow}
use Rattle.law_reload_moves.proofs.NewsLaws.{none_moved}
use Rattle.law_reload_moves.proofs.TakenPlaces.{any_place, itself_number, IsEffectOf, source_read, target_read, operator_hidden}
use Rattle.law_operands_fetched.proofs.law_operands_replaced.WholeTurns.{IsWholeBeside}

operand_changed : (c : Code) (k : ℕ) → role_of c ≡ Operand → has_number k (operand_here c (pos k)) ≡ true
operand_changed code.MatchOperand k is = itself_number k
operand_changed code.MatchDup k is = itself_number k
operand_changed code.MatchScratch k is = itself_number k
operand_changed _ k is = absurd (let no : ⊥ = cc in no)

changed_itself : (c : Code) (a : Rtx) (kids : List Rtx) → role_of c ≡ Operand → changed_at_by c a kids ≡ changed_whole a
changed_itself code.MatchOperand a kids is = refl
changed_itself code.MatchDup a kids is = refl
changed_itself code.MatchScratch a kids is = refl
changed_itself _ a kids is = absurd (let no : ⊥ = cc in no)

-- an operand that is what an effect changes
pub changed_has : (a : Rtx) (k : ℕ) → role_of (head_of a).code ≡ Operand → (head_of a).number ≡ pos k → has_number k (changed_at a) ≡ true
changed_has a k is same = ap (has_number k) (changed_itself (head_of a).code a (kids_of a) is) ∙
    ap (λ (n : ℤ). has_number k (operand_here (head_of a).code n)) same ∙ operand_changed (head_of a).code k is

operator_code : (c : Code) → role_of c ≡ Operator → is_operator_code c ≡ true
operator_code code.MatchOperator is = refl
operator_code code.MatchOpDup is = refl
operator_code _ is = absurd (let no : ⊥ = cc in no)

pub first_of : (a b t s : Rtx) (us vs : List Rtx) → us ≡ a ∷ b ∷ [] → vs ≡ t ∷ s ∷ [] → AtOnePlace us vs a t
first_of a b t s us vs are are' = subst (λ us. AtOnePlace us vs a t) (sym are) (subst (λ vs. AtOnePlace (a ∷ b ∷ []) vs a t) (sym are') (first a t (b ∷ []) (s ∷ [])))

pub second_of : (a b t s : Rtx) (us vs : List Rtx) → us ≡ a ∷ b ∷ [] → vs ≡ t ∷ s ∷ [] → AtOnePlace us vs b s
second_of a b t s us vs are are' = subst (λ us. AtOnePlace us vs b s) (sym are)
    (subst (λ vs. AtOnePlace (a ∷ b ∷ []) vs b s) (sym are') (later b s a t (b ∷ []) (s ∷ []) (first b s [] [])))

module _ (homes : List HomeOf) (layout : Layout) (kind : Kind) (w pattern : Rtx) (found : Ops) (plan : Plan)
    (sound : IsSoundPlan (given homes layout kind w pattern found plan) plan)
    (symbols : List SymbolAt) (regs other : Regs) (m : List MemByte) (known : KnowsRest regs other)
    (made : instantiated pattern found ≡ Some w) (shaped : all_pass is_shaped w ≡ true)
    (fetched : AreFetched homes layout kind w pattern found plan sound symbols regs other m known made shaped) where
  abbrev hm : Rtx → Rtx
  hm = homed homes layout

  abbrev all_news : Ops
  all_news = news homes layout kind w pattern found plan

  abbrev Own : ℕ → ℕ
  Own = own homes layout kind w pattern found plan

  abbrev Result : ℤ → Option ℕ
  Result = result_at homes layout kind w pattern found plan

  abbrev Read : ℤ → Type 0
  Read = Reads homes layout kind w pattern found plan

  abbrev Loses : ℤ → Type 0
  Loses = Lost homes layout kind w pattern found plan

  -- where nothing is new nothing is moved
  pub none_new : (number : ℤ) → operand_numbered all_news number ≡ None → Result number ≡ None
  none_new = none_moved (asks homes layout kind w pattern found plan) (given homes layout kind w pattern found plan).operands plan.parts

  abbrev pub Beside : Rtx → Rtx → Type 0
  Beside q x = IsBeside symbols regs other m known Own (mode homes layout kind w pattern found plan) (tree homes layout kind w pattern found plan)
      (Free homes layout kind w pattern found plan) Result all_news Read Loses none_new q x

  abbrev NewAt : ℤ → Rtx → Rtx → Type 0
  NewAt number z r = IsNewAt homes layout kind w pattern found plan made shaped sound number z r

  -- an effect of the pattern, and the tree beside it
  pub record IsAmong (q v : Rtx) : Type 0 where
    pub made_too : instantiated q found ≡ Some v
    pub shaped_too : all_pass is_shaped v ≡ true
    pub effect : IsEffectOf pattern q
    pub lows : (number : ℤ) → IsLow homes layout found q v number → IsLow homes layout found pattern w number
    pub stands : (number : ℤ) (z : Rtx) → StandsFor q (hm v) number z → StandsFor pattern (hm w) number z

  -- what is new in a low part is not
  not_low : (q v : Rtx) (number : ℤ) (z r : Rtx) → IsAmong q v → StandsFor q (hm v) number z → operand_numbered all_news number ≡ Some r →
      IsLow homes layout found q v number → ⊥
  not_low q v number z r is at has low =
      let n = new_at homes layout kind w pattern found plan made shaped sound number z r (is.stands number z at) has in
      let e : true ≡ false = sym (is.lows number low n.x.number false n.number_is) ∙
      sym (known_of homes layout kind w pattern found plan n.p.place n.x n.part.of).lowpart ∙ n.clear in
      let no : ⊥ = cc in no

  module _ (q v : Rtx) (is : IsAmong q v) where
    abbrev x : Rtx
    x = hm v

    -- a set
    module _ (a b t s : Rtx) (is_set : (head_of q).code ≡ code.Set) (are : kids_of q ≡ a ∷ b ∷ []) (are' : kids_of x ≡ t ∷ s ∷ []) where
      itself_q : role_of (head_of q).code ≢ Operand
      itself_q o = let no : Itself ≡ Operand = sym (ap role_of is_set) ∙ o in let never : ⊥ = cc in never

      long : length (kids_of q) ≡ length (kids_of x)
      long = ap length are ∙ sym (ap length are')

      none_placed : register_at v ≡ None
      none_placed =
          ap (λ (h : RtxHead). register_by h.code v (kids_of v)) head ∙ ap (λ c. register_by c v (kids_of v)) is_set ∙
          ap (λ (h : RtxHead). register_numbered h.code h.number) head ∙ ap (λ c. register_numbered c (head_of q).number) is_set
        where
          head : head_of v ≡ head_of q
          head = itself_made homes layout found q v (ap role_of is_set) is.made_too

      in_target : (number : ℤ) (z : Rtx) → StandsFor a t number z → StandsFor q x number z
      in_target number z stands = part q x a t z number itself_q long
          (first_of a b t s (kids_of q) (kids_of x) are are') stands

      in_source : (number : ℤ) (z : Rtx) → StandsFor b s number z → StandsFor q x number z
      in_source number z stands = part q x b s z number itself_q long
          (second_of a b t s (kids_of q) (kids_of x) are are') stands

      -- the inside of a target that is a low part
      target_low : (r : Rtx) (number : ℤ) (z : Rtx) → StandsFor a t number z → (head_of a).code ≡ code.Subreg → kids_of a ≡ r ∷ [] → IsLow homes layout found q v number
      target_low r number z stands is_low are_kids =
          let p = part_beside homes layout found q v x a t is.made_too refl is.shaped_too itself_q none_placed
          (first_of a b t s (kids_of q) (kids_of x) are are') in
          p.lows number (low_inside homes layout found a t number z p.was r stands p.made p.shaped is_low are_kids)

      reads_target : role_of (head_of a).code ≢ Operand → (number : ℤ) (z r : Rtx) → StandsFor a t number z → operand_numbered all_news number ≡ Some r → Read number
      reads_target other' number z r stands has k same =
          target_read pattern q a b t z number k is.effect is_set are stands other' same
          (λ inner is_low are_kids. not_low q v number z r is (in_target number z stands) has (target_low inner number z stands is_low are_kids))

      reads_source : (number : ℤ) (z r : Rtx) → StandsFor b s number z → operand_numbered all_news number ≡ Some r → Read number
      reads_source number z r stands has k same = source_read pattern q a b s z number k is.effect is_set are stands same

    -- what a clobber names
    clobber_names : (a : Rtx) → (head_of q).code ≡ code.Clobber → kids_of q ≡ a ∷ [] → role_of (head_of a).code ≡ Operand → Loses (head_of a).number
    clobber_names a is_clobber are operand k same =
        has_in_each k clobbered_by (effects_of pattern) ∙
        is.effect (λ q. has_number k (clobbered_by q))
        (ap (λ c. has_number k (clobbered_by_parts c (kids_of q))) is_clobber ∙ ap (λ kids. has_number k (clobbered_by_parts code.Clobber kids)) are ∙
        changed_has a k operand same)

    -- what an operator hides
    operator_none : (number : ℤ) (z r : Rtx) → StandsFor q x number z → operand_numbered all_news number ≡ Some r → role_of (head_of q).code ≡ Operator →
        Result number ≡ None
    operator_none number z r stands has operator =
        let n = new_at homes layout kind w pattern found plan made shaped sound number z r (is.stands number z stands) has in
        let hidden = operator_hidden pattern q x z number n.x.number is.effect (operator_code (head_of q).code operator) stands n.number_is in
        by n.p.is_moved n refl hidden
      where
        by : (b : Bool) (n : NewAt number z r) → n.p.is_moved ≡ b → is_hidden pattern n.x.number ≡ true → Result number ≡ None
        by false n stays hidden = n.result_is ∙ ap (λ b. if b then Some n.p.place else None) stays
        by true n moved hidden =
            let e : true ≡ false = sym hidden ∙ sym (known_of homes layout kind w pattern found plan n.p.place n.x n.part.of).hidden ∙
            sound.shown n.at n.p n.x n.part moved in absurd (let no : ⊥ = cc in no)

    pub among_beside : Beside q x
    among_beside = record {
      new = λ number z r stands has. new_is homes layout kind w pattern found plan sound symbols regs other m known made shaped fetched number z r
          (is.stands number z stands) has;
      head_is = λ itself_is effect. beside_head homes layout found q v x is.made_too refl itself_is effect;
      set_reads = λ a b t s is_set are are'. (
        (λ other'. reads_target a b t s is_set are are' other'),
        (λ number z r stands has. reads_source a b t s is_set are are' number z r stands has),
      );
      loses = clobber_names;
      hidden = λ other' number z r stands has operator. operator_none number z r stands has operator;
    }

  -- ---- the whole pattern

  alone_effect : ((head_of pattern).code ≢ code.Parallel) → IsEffectOf pattern pattern
  alone_effect other' test is = ap (list_any test) (by (head_of pattern).code other') ∙ or_left (test pattern) false is
    where
      by : (c : Code) → c ≢ code.Parallel → effects_by c pattern (kids_of pattern) ≡ pattern ∷ []
      by code.Parallel other' = absurd (other' refl)
      by _ other' = refl

  parallel_itself : (head_of pattern).code ≡ code.Parallel → role_of (head_of pattern).code ≢ Operand
  parallel_itself is o = let no : Itself ≡ Operand = sym (ap role_of is) ∙ o in let never : ⊥ = cc in never

  each_beside : (head_of pattern).code ≡ code.Parallel → is_effect (hm w) ≡ true → (q z : Rtx) → AtOnePlace (kids_of pattern) (kids_of (hm w)) q z → Beside q z
  each_beside is effect q z at =
      let long = (beside_head homes layout found pattern w (hm w) made refl (ap role_of is) effect).1 in
      let p = part_beside homes layout found pattern w (hm w) q z made refl shaped (parallel_itself is) (no_place homes layout found w effect) at in
      subst (Beside q) (sym p.tree_is)
      (among_beside q p.was (record {
        made_too = p.made;
        shaped_too = p.shaped;
        effect = λ test is'. ap (λ c. list_any test (effects_by c pattern (kids_of pattern))) is ∙
            any_place test (kids_of pattern) (kids_of (hm w)) q z at is';
        lows = p.lows;
        stands = λ number y stands. part pattern (hm w) q z y number (parallel_itself is) long at (subst (λ z. StandsFor q z number y) (sym p.tree_is) stands);
      }))

  -- the pattern beside the instruction
  pub whole_beside : is_effect (hm w) ≡ true →
      IsWholeBeside symbols regs other m known Own (mode homes layout kind w pattern found plan) (tree homes layout kind w pattern found plan)
      (Free homes layout kind w pattern found plan) Result all_news Read Loses none_new pattern (hm w)
  whole_beside effect = record {
    head_is = λ itself_is effect. beside_head homes layout found pattern w (hm w) made refl itself_is effect;
    alone = λ other'. among_beside pattern w (record {
      made_too = made;
      shaped_too = shaped;
      effect = alone_effect other';
      lows = λ number low. low;
      stands = λ number z stands. stands;
    });
    each = λ is. each_beside is effect;
  }
