-- The search for the pair that is next.
use Rattle.std.proofs.Common.{◌≡◌, ◌⊎◌, ⊎_elim, ℕ, zero, suc, ◌+◌, ◌-◌, ◌<◌, ◌≤◌, List, length, Some, None, refl, sym, ap, subst, ◌∙◌, arith}
use Rattle.std.proofs.lemmas.Bool.{cases_lt}
use Rattle.std.proofs.lemmas.Option.{slice_get_within}
use Rattle.rtx_tree.specs.declared.tree.Rtx.{Rtx}
use Rattle.rtx_tree.specs.declared.function.Insn.{Insn}
use Rattle.rtx_tree.specs.declared.function.Function.{Function}
use Rattle.rtx_tree.specs.Limit.{most_apart}
use Rattle.live_chain.specs.Stays.{StaysBefore}
use Rattle.new_insns.specs.Replaced.{replaced}
use Rattle.md_forms.specs.declared.form.Entry.{Entry}
use Rattle.combine.specs.Combine.{Combines, NoneBefore, NoneLeft, IsStep, Steps, Combined}
use Rattle.combine.specs.machine.Found.{IsPair, Tried, NoneFrom, IsLast, LastPair, IsNext}
use Rattle.combine.specs.declared.search.Pair.{Pair}
use Rattle.combine.proofs.Ends.{steps_long}
use Rattle.combine.proofs.Front.{still_none, chosen_by}

module _ (forms : List Entry) (f : Function) (second : ℕ) where
  -- ---- the first of a pair

  pub none_from_second : NoneFrom forms f second second
  none_from_second i x from c = let before = c.before in absurd (omega (arith, from, before))

  pub one_less : (first : ℕ) → NoneFrom forms f second first → Tried forms f (first - 1) second None → NoneFrom forms f second (first - 1)
  one_less first none here i x from c = ⊎_elim
      (λ (before : i < first). let same : i ≡ first - 1 = omega (arith, before, from) in here x (subst (λ n. Combines forms f n second x) same c))
      (λ (behind : first ≤ i). none i x behind c)
      (cases_lt i first)

  pub none_at_all : (first : ℕ) → NoneFrom forms f second first → first ≤ second - most_apart → LastPair forms f second None
  none_at_all first none near i x from c = ⊎_elim
      (λ (before : i < first). let apart = c.near in absurd (omega (arith, before, near, apart)))
      (λ (behind : first ≤ i). none i x behind c)
      (cases_lt i first)

  pub is_last : (first : ℕ) (new : List Insn) → 0 < first → NoneFrom forms f second first → IsPair forms f (first - 1) second new → LastPair forms f second (Some (record { first = first - 1; second = second; new = new }))
  is_last first new some none pair = record {
    second_is = refl;
    pair = pair;
    last = let same : first ≡ first - 1 + 1 = omega (arith, some) in subst (NoneFrom forms f second) same none;
  }

  -- ---- the second

  pub none_here : NoneBefore forms f second → LastPair forms f second None → NoneBefore forms f (second + 1)
  none_here none here i j x below c = ⊎_elim
      (λ (before : j < second). none i j x before c)
      (λ (behind : second ≤ j). let same : j ≡ second = omega (arith, below, behind) in here i x (omega arith) (subst (λ n. Combines forms f i n x) same c))
      (cases_lt j second)

  pub none_left : length f.insns ≤ second → NoneBefore forms f second → NoneLeft forms f
  none_left past none i j x c =
      let within = slice_get_within f.insns j c.links.other c.links.at_second in
      none i j x (omega (arith, within, past)) c

  pub is_next : (p : Pair) → NoneBefore forms f second → IsLast forms f second p → IsNext forms f p
  is_next p none last = record {
    pair = subst (λ n. IsPair forms f p.first n p.new) (sym last.second_is) last.pair;
    chosen = subst (λ n. (i j : ℕ) (x : Rtx) → Combines forms f i j x → (n < j) ⊎ ((n ≡ j) × (i ≤ p.first))) (sym last.second_is)
        (chosen_by forms f p.first second none (λ i x behind c. last.last i x (omega (arith, behind)) c));
  }

-- ---- the pair that is put

module _ (forms : List Entry) (f : Function) (p : Pair) (next : IsNext forms f p) where
  in_front : NoneBefore forms f p.first
  in_front i j x below c =
      let before = next.pair.combines.before in
      ⊎_elim
      (λ (behind : p.second < j). absurd (omega (arith, behind, below, before)))
      (λ (same : (p.second ≡ j) × (i ≤ p.first)). let is = same.0 in absurd (omega (arith, is, below, before)))
      (next.chosen i j x c)

  pub none_put : (g : Function) (end : ℕ) → g ≡ replaced f p.first end p.new → StaysBefore f g p.first → NoneBefore forms g p.first
  none_put g end is stays =
      let order = next.pair.combines.put.order in
      let within = next.pair.combines.put.within in
      subst (λ h. NoneBefore forms h p.first) (sym is)
      (still_none forms f p.first end p.new (omega (arith, order, within)) (subst (λ h. StaysBefore f h p.first) is stays) in_front)

-- one step more
pub steps_more : (forms : List Entry) (n : ℕ) (f g h : Function) → Steps forms n f g → IsStep forms g h → Steps forms (suc n) f h
steps_more forms _ _ _ h (Steps.none f) one = Steps.step zero f h h one (Steps.none h)
steps_more forms _ _ _ h (Steps.step n f k g first more) one = Steps.step (suc n) f k h first (steps_more forms n k g h more one)

-- where none is left
pub combined_by : (forms : List Entry) (n : ℕ) (f g h k : Function) (long short : ℕ) → Steps forms n f g → h ≡ g → k ≡ h → NoneLeft forms g → long ≡ length f.insns → short ≡ length h.insns → Combined forms (long - short) f k
combined_by forms n f g h k long short steps same kept none is is_too =
    let all = steps_long forms n f g steps in
    let left = ap (λ (s : Function). length s.insns) same in
    let count : n ≡ long - short = omega (arith, all, left, is, is_too) in
    subst (Combined forms (long - short) f) (sym (kept ∙ same)) (subst (λ m. Steps forms m f g) count steps, none)
