-- The search ends: each step marks a place, or goes on from one that is unmarked, or back from one that is marked.
use Rattle.std.proofs.Common.{◌≡◌, ℕ, suc, ◌+◌, ◌-◌, ◌*◌, ◌<◌, ◌≤◌, Bool, true, false, cond, not, List, [], ◌∷◌, ◌++◌, length, set, get_or, sum_by, refl, sym, ap, subst, ◌∙◌, arith}
use Rattle.std.proofs.lemmas.List.{length_push}
use Rattle.std.proofs.lemmas.List.Sums.{sum_by-set}
use Rattle.ask_order.specs.machine.Search.{is_open}
use Rattle.ask_order.proofs.Marks.{open_within, marked_self}

abbrev pub weight : Bool → ℕ
weight known = cond known 0 1

-- how many places are not yet in the order
abbrev pub open_count : List Bool → ℕ
open_count known = sum_by weight known

-- how far there is to go on, or back
abbrev pub left : Bool → ℕ → ℕ → ℕ
left unmarked most deep = cond unmarked (most + 1 - deep) (most + 1 + deep)

abbrev pub measure : ℕ → List Bool → List ℕ → ℕ → ℕ
measure most known stack place = open_count known * (most + most + 2) + left (is_open known place) most (length stack)

module _ (most : ℕ) (known : List Bool) where
  back_less : (b : Bool) (deep : ℕ) → left b most deep < most + 1 + (deep + 1)
  back_less true deep = omega arith
  back_less false deep = omega arith

  pub back : (stack rest : List ℕ) (place before : ℕ) → is_open known place ≡ false → stack ≡ rest ++ before ∷ [] → measure most known rest before < measure most known stack place
  back stack rest place before marked is =
      let long : length stack ≡ length rest + 1 = ap (λ (s : List ℕ). length s) is ∙ length_push rest before in
      let now : left (is_open known place) most (length stack) ≡ most + 1 + length stack = ap (λ (b : Bool). left b most (length stack)) marked in
      let less = back_less (is_open known before) (length rest) in
      omega (arith, long, now, less)

  pub on : (stack : List ℕ) (place next : ℕ) → is_open known place ≡ true → is_open known next ≡ true → length stack < most → measure most known (stack ++ place ∷ []) next < measure most known stack place
  on stack place next unmarked also few =
      let long : length (stack ++ place ∷ []) ≡ length stack + 1 = length_push stack place in
      let now : left (is_open known place) most (length stack) ≡ most + 1 - length stack = ap (λ (b : Bool). left b most (length stack)) unmarked in
      let then : left (is_open known next) most (length (stack ++ place ∷ [])) ≡ most + 1 - length (stack ++ place ∷ []) = ap (λ (b : Bool). left b most (length (stack ++ place ∷ []))) also in
      omega (arith, long, now, then, few)

  pub on_to : (stack more : List ℕ) (place next : ℕ) → is_open known place ≡ true → is_open known next ≡ true → length stack < most → more ≡ stack ++ place ∷ [] → measure most known more next < measure most known stack place
  on_to stack more place next unmarked also few is =
      subst (λ (s : List ℕ). measure most known s next < measure most known stack place) (sym is) (on stack place next unmarked also few)

  not_true : (b : Bool) → not b ≡ true → b ≡ false
  not_true true e = absurd (let no : ⊥ = cc in no)
  not_true false e = refl

  one_less : (place : ℕ) → is_open known place ≡ true → open_count known ≡ suc (open_count (set known place true))
  one_less place unmarked =
      let was : get_or known place true ≡ false = not_true (get_or known place true) unmarked in
      let sums : sum_by weight (set known place true) + weight (get_or known place true) ≡ sum_by weight known + weight true = sum_by-set weight known place true true (open_within known place unmarked) in
      let one : weight (get_or known place true) ≡ 1 = ap weight was in
      omega (arith, sums, one)

  one_row : (n k : ℕ) → suc n * k ≡ k + n * k
  one_row n k = omega arith

  marks_less : (all fewer wide before after : ℕ) → all ≡ suc fewer → after < wide → fewer * wide + after < all * wide + before
  marks_less all fewer wide before after is small =
      let step : all * wide ≡ wide + fewer * wide = ap (λ (n : ℕ). n * wide) is ∙ one_row fewer wide in
      omega (arith, step, small)

  pub marks : (stack : List ℕ) (place : ℕ) → is_open known place ≡ true → length stack ≤ most → measure most (set known place true) stack place < measure most known stack place
  marks stack place unmarked short =
      let now : left (is_open (set known place true) place) most (length stack) ≡ most + 1 + length stack = ap (λ (b : Bool). left b most (length stack)) (marked_self known place (open_within known place unmarked)) in
      marks_less (open_count known) (open_count (set known place true)) (most + most + 2) (left (is_open known place) most (length stack)) (left (is_open (set known place true) place) most (length stack))
      (one_less place unmarked) (omega (arith, now, short))
