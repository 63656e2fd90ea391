-- What is found of two instructions, and of two places.
use Rattle.std.proofs.Common.{◌≡◌, ℕ, zero, suc, ◌+◌, ◌-◌, ◌<◌, ◌≤◌, ◌&&◌, not, Bool, true, false, List, [], ◌∷◌, ◌++◌, length, take, drop, get_or, Some, None, refl, sym, ap, subst, ◌∙◌, arith}
use Rattle.std.specs.Prelude.{slice_get}
use Rattle.std.specs.List.{list_all}
use Rattle.std.proofs.lemmas.Bool.{true≢false, and_parts, and_from}
use Rattle.std.proofs.lemmas.Option.{slice_get_within, slice_get-get_or}
use Rattle.rtx_tree.specs.Limit.{most_reused}
use Rattle.rtx_tree.specs.declared.code.Mode.{Mode}
use Rattle.rtx_tree.specs.declared.tree.Rtx.{Rtx}
use Rattle.rtx_tree.specs.declared.function.Insn.{Insn}
use Rattle.rtx_tree.specs.declared.function.Function.{Function}
use Rattle.rtx_tree.specs.Tree.{mentions_reg}
use Rattle.live.specs.Live.{IsLiveAfter}
use Rattle.new_insns.specs.Replaced.{window}
use Rattle.reg_uses.specs.Uses.{insn_defines}
use Rattle.insn_fuse.specs.Fused.{set_of}
use Rattle.md_forms.specs.declared.form.Entry.{Entry}
use Rattle.md_desc.specs.Recog.{NoneMatches}
use Rattle.form_needs.specs.Needs.{lower_facts}
use Rattle.reuse.specs.Reuse.{set_mode, source_of, is_computed, keeps, leaves, reusing, SetAgain, IsFormed, EquatedOverAll, Repeats, RepeatsAt, IsDeadSet}
use Rattle.reuse.specs.machine.Found.{SetsSame, FoundAgain, KeptFrom, last_put, IsPutLast, Tried, NoneUpto, NoneFrom}
use Rattle.reuse.proofs.Last.{last_is}
use Rattle.reuse.proofs.Lists.{window_first, window_both}
use Rattle.reuse.proofs.One.{some_one}

-- ---- a value that is set again

module _ (one other : Insn) where
  pub no_set : set_of one ≡ None → FoundAgain one other None
  no_set none register mode source again = let is : set_of one ≡ Some register = again.sets in cc

  pub no_mode : ((mode : Mode) → set_mode one ≡ Some mode → set_mode other ≡ Some mode → ⊥) → FoundAgain one other None
  no_mode none register mode source again = none mode again.in_mode again.again_in

  module _ (register : ℕ) (sets : set_of one ≡ Some register) where
    pub no_source : ((source : Rtx) → SetsSame one other register source → ⊥) → FoundAgain one other None
    no_source none r mode source again =
        let same = some_one (set_of one) r register again.sets sets in
        none source (record { sets_to = again.sets_to; again_to = again.again_to; computed = again.computed; apart = subst (λ n. mentions_reg n source ≡ false) same again.apart })

    pub is_again : (mode : Mode) → (set_mode one ≡ Some mode) × (set_mode other ≡ Some mode) → (source : Rtx) × SetsSame one other register source → (source : Rtx) × SetAgain one other register mode source
    is_again mode modes found =
        let s = found.1 in
        (found.0, record { sets = sets; in_mode = modes.0; again_in = modes.1; sets_to = s.sets_to; again_to = s.again_to; computed = s.computed; apart = s.apart })

-- ---- what stands between

-- one more in front
pub kept_more : (f : Function) (first second : ℕ) (i other : Insn) (source : Rtx) → first < second → slice_get f.insns first ≡ Some i → slice_get f.insns second ≡ Some other → source_of other ≡ Some source → keeps source i ≡ true →
    KeptFrom f (first + 1) second → KeptFrom f first second
kept_more f first second i other source order at there is kept rest o s o_there s_is =
    let same = some_one (slice_get f.insns second) other o there o_there in
    let same_source = some_one (source_of o) source s (ap source_of (sym same) ∙ is) s_is in
    let here : keeps s i ≡ true = ap (λ x. keeps x i) (sym same_source) ∙ kept in
    ap (list_all (keeps s)) (window_first f.insns first second i order at) ∙ and_from (keeps s i) (list_all (keeps s) (window f (first + 1) second)) here (rest o s o_there s_is)

-- none stands between a place and itself
pub kept_none : (f : Function) (second : ℕ) → KeptFrom f second second
kept_none f second o s o_there s_is = let zero : second - second ≡ 0 = omega arith in ap (λ n. list_all (keeps s) (take n (drop second f.insns))) zero

-- what one and the rest do to a register
module _ (f : Function) (place second reg : ℕ) where
  leaves_first : (i : Insn) → place < second → slice_get f.insns place ≡ Some i → list_all (leaves reg) (window f place second) ≡ (leaves reg i && list_all (leaves reg) (window f (place + 1) second))
  leaves_first i order at = ap (list_all (leaves reg)) (window_first f.insns place second i order at)

  -- one leaves it
  pub leaves_more : (i : Insn) → place < second → slice_get f.insns place ≡ Some i → insn_defines i reg ≡ false → list_all (leaves reg) (window f place second) ≡ list_all (leaves reg) (window f (place + 1) second)
  leaves_more i order at none = leaves_first i order at ∙ ap (λ b. not b && list_all (leaves reg) (window f (place + 1) second)) none

  -- one doesn't
  pub leaves_not : (i : Insn) → place < second → slice_get f.insns place ≡ Some i → insn_defines i reg ≡ true → list_all (leaves reg) (window f place second) ≡ false
  leaves_not i order at some = leaves_first i order at ∙ ap (λ b. not b && list_all (leaves reg) (window f (place + 1) second)) some

  -- none is left
  pub leaves_end : second ≤ place → list_all (leaves reg) (window f place second) ≡ true
  leaves_end past = let none : second - place ≡ 0 = omega (arith, past) in ap (λ n. list_all (leaves reg) (take n (drop place f.insns))) none

-- each of them does
kept_at : (f : Function) (second : ℕ) (source : Rtx) (i : Insn) (n first place : ℕ) → place ≡ first + n → place < second → second ≤ length f.insns → slice_get f.insns place ≡ Some i →
    list_all (keeps source) (window f first second) ≡ true → keeps source i ≡ true
kept_at f second source i zero first place is below within at all =
    let same : place ≡ first = omega (arith, is) in
    let here = ap (slice_get f.insns) (sym same) ∙ at in
    (and_parts (keeps source i) _ (sym (ap (list_all (keeps source)) (window_first f.insns first second i (omega (arith, below, same)) here)) ∙ all)).0
kept_at f second source i (suc n) first place is below within at all =
    let j = get_or f.insns first i in
    let there = slice_get-get_or f.insns first i (omega (arith, is, below, within)) in
    kept_at f second source i n (first + 1) place (omega (arith, is)) below within at
    (and_parts (keeps source j) _ (sym (ap (list_all (keeps source)) (window_first f.insns first second j (omega (arith, is, below)) there)) ∙ all)).1

module _ (forms : List Entry) (f : Function) (place second : ℕ) (order : place < second) (other : Insn) (there : slice_get f.insns second ≡ Some other) where
  -- what is set is no part of a set
  pub no_part : source_of other ≡ None → NoneUpto forms f second place
  no_part none a n upto r =
      let same = some_one (slice_get f.insns second) r.other other r.at_second there in
      let is : source_of other ≡ Some r.repeats.source = ap source_of (sym same) ∙ r.repeats.again.again_to in
      cc

  -- an instruction that does not keep it
  pub none_upto : (source : Rtx) (i : Insn) → source_of other ≡ Some source → slice_get f.insns place ≡ Some i → keeps source i ≡ false → NoneUpto forms f second place
  none_upto source i is at not a n upto r =
      let same = some_one (slice_get f.insns second) r.other other r.at_second there in
      let same_source = some_one (source_of other) r.repeats.source source (ap source_of (sym same) ∙ r.repeats.again.again_to) is in
      let before = r.before in
      let within = slice_get_within f.insns second other there in
      let all : list_all (keeps source) (window f a second) ≡ true =
      subst (λ x. list_all (keeps x) (window f a second) ≡ true) same_source (ap (list_all (keeps r.repeats.source)) (window_first f.insns a second r.one before r.at_first) ∙ r.repeats.known.kept) in
      true≢false (sym (kept_at f second source i (place - a) a place (omega (arith, upto)) order (omega (arith, within)) at all) ∙ not)

-- the second sets nothing that is computed
pub none_computed : (forms : List Entry) (f : Function) (second : ℕ) (other : Insn) → slice_get f.insns second ≡ Some other →
    ((mode : Mode) (source : Rtx) → set_mode other ≡ Some mode → source_of other ≡ Some source → is_computed source ≡ true → ⊥) → NoneFrom forms f second 0
none_computed forms f second other there none first n from r =
    let same = some_one (slice_get f.insns second) r.other other r.at_second there in
    let again = r.repeats.again in
    none r.repeats.mode r.repeats.source (ap set_mode (sym same) ∙ again.again_in) (ap source_of (sym same) ∙ again.again_to) again.computed

-- ---- a form

pub none_formed : (forms : List Entry) (i : Insn) → NoneMatches forms lower_facts i.pattern → IsFormed forms i → ⊥
none_formed forms i none formed = none formed.form formed.operands formed.matches

-- ---- a repeated value

module _ (forms : List Entry) (f : Function) (first second : ℕ) (one other : Insn) (at : slice_get f.insns first ≡ Some one) (there : slice_get f.insns second ≡ Some other) where
  abbrev between : List Insn
  between = window f (first + 1) second

  repeats_of : (n : Insn) → RepeatsAt forms f first second n → Repeats forms one between other n
  repeats_of n r =
      subst (λ o. Repeats forms one between o n) (some_one (slice_get f.insns second) r.other other r.at_second there)
      (subst (λ o. Repeats forms o between r.other n) (some_one (slice_get f.insns first) r.one one r.at_first at) r.repeats)

  pub no_again : FoundAgain one other None → Tried forms f first second None
  no_again none n r = let p = repeats_of n r in none p.register p.mode p.source p.again

  module _ (register : ℕ) (mode : Mode) (source : Rtx) (again : SetAgain one other register mode source) where
    same_register : (n : Insn) (p : Repeats forms one between other n) → p.register ≡ register
    same_register n p = some_one (set_of one) p.register register p.again.sets again.sets

    same_mode : (n : Insn) (p : Repeats forms one between other n) → p.mode ≡ mode
    same_mode n p = some_one (set_mode one) p.mode mode p.again.in_mode again.in_mode

    same_new : (n : Insn) (p : Repeats forms one between other n) → n ≡ reusing mode register other
    same_new n p = p.makes ∙ (ap (λ m. reusing m p.register other) (same_mode n p) ∙ ap (λ r. reusing mode r other) (same_register n p))

    pub not_left : list_all (leaves register) between ≡ false → Tried forms f first second None
    not_left none n r =
        let p = repeats_of n r in
        true≢false (sym (subst (λ reg. list_all (leaves reg) between ≡ true) (same_register n p) p.known.alone) ∙ none)

    module _ (new : Insn) (new_is : new ≡ reusing mode register other) where
      pub not_formed : (IsFormed forms new → ⊥) → Tried forms f first second None
      not_formed none n r = let p = repeats_of n r in none (subst (IsFormed forms) (same_new n p ∙ sym new_is) p.formed)

      module _ (order : first < second) (end : ℕ) (end_is : end ≡ second + 1) where
        whole : window f first end ≡ (one ∷ between) ++ other ∷ []
        whole = ap (window f first) end_is ∙ window_both f.insns first second one other order at there

        put_is : last_put new (window f first end) ≡ (one ∷ between) ++ new ∷ []
        put_is = ap (last_put new) whole ∙ last_is new (one ∷ between) other

        pub not_put : (IsPutLast f first end new → ⊥) → Tried forms f first second None
        not_put none n r =
            let p = repeats_of n r in
            none (subst (λ w. EquatedOverAll w (last_put new (window f first end))) (sym whole)
            (subst (EquatedOverAll ((one ∷ between) ++ other ∷ [])) (sym put_is)
            (subst (λ i. EquatedOverAll ((one ∷ between) ++ other ∷ []) ((one ∷ between) ++ i ∷ [])) (same_new n p ∙ sym new_is) p.equated)))

        pub is_repeated : second ≤ first + most_reused → KeptFrom f first second → list_all (leaves register) between ≡ true → IsFormed forms new → IsPutLast f first end new → Tried forms f first second (Some new)
        is_repeated near kept alone formed equated = record {
          before = order;
          near = near;
          one = one;
          other = other;
          at_first = at;
          at_second = there;
          repeats = record {
            register = register;
            mode = mode;
            source = source;
            again = again;
            known = record {
              kept = sym (ap (list_all (keeps source)) (window_first f.insns first second one order at)) ∙ kept other source there again.again_to;
              alone = alone;
            };
            makes = new_is;
            formed = formed;
            equated = subst (λ w. EquatedOverAll w ((one ∷ between) ++ new ∷ [])) whole (subst (EquatedOverAll (window f first end)) put_is equated);
          };
        }

-- ---- a dead set

pub not_true : (b : Bool) → not b ≡ true → b ≡ true → ⊥
not_true true none is = true≢false (sym none)
not_true false none is = true≢false (sym is)

pub not_false : (b : Bool) → not b ≡ false → b ≡ true
not_false true none = refl
not_false false none = absurd (true≢false none)

module _ (f : Function) (place : ℕ) (i : Insn) (at : slice_get f.insns place ≡ Some i) where
  pub no_dead : set_of i ≡ None → IsDeadSet f place → ⊥
  no_dead none d =
      let same = some_one (slice_get f.insns place) d.insn i d.at_place at in
      let is : set_of i ≡ Some d.register = ap set_of (sym same) ∙ d.sets in
      cc

  pub dead_register : (register : ℕ) → set_of i ≡ Some register → (d : IsDeadSet f place) → d.register ≡ register
  dead_register register is d =
      let same = some_one (slice_get f.insns place) d.insn i d.at_place at in
      some_one (set_of i) d.register register (ap set_of (sym same) ∙ d.sets) is

  pub other_lives : (register : ℕ) → set_of i ≡ Some register → IsLiveAfter f register place → IsDeadSet f place → ⊥
  other_lives register is lives d = d.dead (subst (λ r. IsLiveAfter f r place) (sym (dead_register register is d)) lives)
