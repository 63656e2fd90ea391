-- Items of a list in two parts, where the second is in reverse, that are written and taken out.
use Rattle.std.proofs.Common.{◌≡◌, ℕ, zero, suc, ◌+◌, ◌-◌, ◌<◌, ◌≤◌, List, [], ◌∷◌, ◌++◌, length, reverse, set, take, drop, get_or, refl, sym, ap, ◌∙◌, arith}
use Rattle.std.specs.List.{remove, splice}
use Rattle.std.proofs.Common.{append_assoc, append-nil, length-append}
use Rattle.std.proofs.lemmas.List.{reverse-append, length-reverse, length-take-le, take-append-drop, take_more, set-append_left, set-append_right, drop_more, drop_at, drop-drop, take_at}
use Rattle.std.proofs.lemmas.List.Edits.{remove-append_left, remove-append_right}

module _ {X : Type 0} where
  -- ---- seen from the other end

  turn : (x : X) (b : List X) → reverse (x ∷ b) ≡ reverse b ++ x ∷ []
  turn x b = reverse-append (x ∷ []) b

  set_reversed : (b : List X) (k : ℕ) (y : X) → k < length b → set (reverse b) (length b - 1 - k) y ≡ reverse (set b k y)
  set_reversed [] k y l = absurd (omega (arith, l))
  set_reversed (x ∷ b) zero y l =
      let long : length (reverse b) ≡ length b = length-reverse b in
      let last : length (x ∷ b) - 1 - 0 ≡ length (reverse b) = omega (arith, long) in
      let none : length (reverse b) - length (reverse b) ≡ 0 = omega arith in
      ap (λ r. set r (length (x ∷ b) - 1 - 0) y) (turn x b) ∙
      (ap (λ n. set (reverse b ++ x ∷ []) n y) last ∙
      (set-append_right (reverse b) (x ∷ []) (length (reverse b)) (length (reverse b)) y refl (omega arith) ∙
      (ap (λ n. reverse b ++ set (x ∷ []) n y) none ∙ sym (turn y b))))
  set_reversed (x ∷ b) (suc k) y l =
      let long : length (reverse b) ≡ length b = length-reverse b in
      let place : length (x ∷ b) - 1 - suc k ≡ length b - 1 - k = omega (arith, l) in
      ap (λ r. set r (length (x ∷ b) - 1 - suc k) y) (turn x b) ∙
      (ap (λ n. set (reverse b ++ x ∷ []) n y) place ∙
      (set-append_left (reverse b) (x ∷ []) (length b - 1 - k) y (omega (arith, l, long)) ∙
      (ap (λ r. r ++ x ∷ []) (set_reversed b k y (omega (arith, l))) ∙ sym (turn x (set b k y)))))

  remove_reversed : (b : List X) (k : ℕ) → k < length b → remove (reverse b) (length b - 1 - k) ≡ reverse (remove b k)
  remove_reversed [] k l = absurd (omega (arith, l))
  remove_reversed (x ∷ b) zero l =
      let long : length (reverse b) ≡ length b = length-reverse b in
      let last : length (x ∷ b) - 1 - 0 ≡ length (reverse b) = omega (arith, long) in
      let none : length (reverse b) - length (reverse b) ≡ 0 = omega arith in
      ap (λ r. remove r (length (x ∷ b) - 1 - 0)) (turn x b) ∙
      (ap (remove (reverse b ++ x ∷ [])) last ∙
      (remove-append_right (reverse b) (x ∷ []) (length (reverse b)) (length (reverse b)) refl (omega arith) ∙
      (ap (λ n. reverse b ++ remove (x ∷ []) n) none ∙ append-nil (reverse b))))
  remove_reversed (x ∷ b) (suc k) l =
      let long : length (reverse b) ≡ length b = length-reverse b in
      let place : length (x ∷ b) - 1 - suc k ≡ length b - 1 - k = omega (arith, l) in
      ap (λ r. remove r (length (x ∷ b) - 1 - suc k)) (turn x b) ∙
      (ap (remove (reverse b ++ x ∷ [])) place ∙
      (remove-append_left (reverse b) (x ∷ []) (length b - 1 - k) (omega (arith, l, long)) ∙
      (ap (λ r. r ++ x ∷ []) (remove_reversed b k (omega (arith, l))) ∙ sym (turn x (remove b k)))))

  -- ---- one item

  pub put_front : (front back new : List X) (at : ℕ) (y : X) → at < length front → new ≡ set front at y →
      new ++ reverse back ≡ set (front ++ reverse back) at y
  put_front front back new at y l is = ap (λ f. f ++ reverse back) is ∙ sym (set-append_left front (reverse back) at y l)

  pub put_back : (front back new : List X) (at place : ℕ) (y : X) → length front ≤ at → at < length front + length back →
      place ≡ length back - 1 - (at - length front) → new ≡ set back place y →
      front ++ reverse new ≡ set (front ++ reverse back) at y
  put_back front back new at place y from l here is =
      let other : at - length front ≡ length back - 1 - place = omega (arith, from, l, here) in
      ap (λ b. front ++ reverse b) is ∙
      (ap (λ r. front ++ r) (sym (set_reversed back place y (omega (arith, from, l, here)))) ∙
      (ap (λ n. front ++ set (reverse back) n y) (sym other) ∙
      sym (set-append_right front (reverse back) (length front) at y refl from)))

  pub out_front : (front back new : List X) (at : ℕ) → at < length front → new ≡ remove front at →
      new ++ reverse back ≡ remove (front ++ reverse back) at
  out_front front back new at l is = ap (λ f. f ++ reverse back) is ∙ sym (remove-append_left front (reverse back) at l)

  pub out_back : (front back new : List X) (at place : ℕ) → length front ≤ at → at < length front + length back →
      place ≡ length back - 1 - (at - length front) → new ≡ remove back place →
      front ++ reverse new ≡ remove (front ++ reverse back) at
  out_back front back new at place from l here is =
      let other : at - length front ≡ length back - 1 - place = omega (arith, from, l, here) in
      ap (λ b. front ++ reverse b) is ∙
      (ap (λ r. front ++ r) (sym (remove_reversed back place (omega (arith, from, l, here)))) ∙
      (ap (λ n. front ++ remove (reverse back) n) (sym other) ∙
      sym (remove-append_right front (reverse back) (length front) at refl from)))

  -- ---- many

  long_front : (l : List X) (first : ℕ) → first ≤ length l → length (take first l) ≡ first
  long_front l first within = length-take-le first l within

  -- one more in front of some that are put, the last first
  pub put_less : (l now next done rest : List X) (at : ℕ) (y : X) → at < length l → now ≡ take (at + 1) l ++ (done ++ rest) →
      next ≡ set now at y → next ≡ take at l ++ ((y ∷ done) ++ rest)
  put_less l now next done rest at y within was is =
      let front : length (take at l) ≡ at = long_front l at (omega (arith, within)) in
      let longer : length (take (at + 1) l) ≡ at + 1 = long_front l (at + 1) (omega (arith, within)) in
      let none : at - at ≡ 0 = omega arith in
      is ∙
      (ap (λ n. set n at y) was ∙
      (set-append_left (take (at + 1) l) (done ++ rest) at y (omega (arith, longer)) ∙
      (ap (λ t. set t at y ++ (done ++ rest)) (take_more l at y within) ∙
      (ap (λ t. t ++ (done ++ rest))
      (set-append_right (take at l) (get_or l at y ∷ []) at at y front (omega arith) ∙
      ap (λ n. take at l ++ set (get_or l at y ∷ []) n y) none) ∙
      append_assoc (take at l) (y ∷ []) (done ++ rest)))))

  pub none_put : (l : List X) (behind : ℕ) → l ≡ take behind l ++ ([] ++ drop behind l)
  none_put l behind = sym (take-append-drop behind l)

  -- one more of some that are taken out behind what was put
  pub out_more : (l now next new : List X) (first at k : ℕ) → k < length l → first + length new ≡ at → first ≤ k →
      now ≡ take first l ++ (new ++ drop k l) → next ≡ remove now at → (d : X) →
      next ≡ take first l ++ (new ++ drop (k + 1) l)
  out_more l now next new first at k within long from was is d =
      let front : length (take first l) ≡ first = long_front l first (omega (arith, within, from)) in
      let behind : at - first ≡ length new = omega (arith, long) in
      let here : length new - length new ≡ 0 = omega arith in
      is ∙
      (ap (λ n. remove n at) was ∙
      (remove-append_right (take first l) (new ++ drop k l) first at front (omega (arith, long)) ∙
      ap (λ r. take first l ++ r)
      (ap (remove (new ++ drop k l)) behind ∙
      (remove-append_right new (drop k l) (length new) (length new) refl (omega arith) ∙
      (ap (λ n. new ++ remove (drop k l) n) here ∙
      ap (λ r. new ++ remove r 0) (drop_more l k d within))))))

  -- ---- both

  behind_put : (l new : List X) (first behind : ℕ) → behind ≡ first + length new → behind ≤ length l → length (take first l ++ new) ≡ behind
  behind_put l new first behind is within =
      let front : length (take first l) ≡ first = long_front l first (omega (arith, is, within)) in
      let both = length-append (take first l) new in
      omega (arith, front, both, is)

  pub within_two : (l m n new : List X) (first behind end : ℕ) → behind ≡ first + length new → behind ≤ end → end ≤ length l →
      m ≡ splice l first behind new → n ≡ splice m behind (behind + (end - behind)) [] → n ≡ splice l first end new
  within_two l m n new first behind end is order within one other =
      let long = behind_put l new first behind is (omega (arith, order, within)) in
      let parts : m ≡ (take first l ++ new) ++ drop behind l = one ∙ sym (append_assoc (take first l) new (drop behind l)) in
      let front : take behind m ≡ take first l ++ new = ap (take behind) parts ∙ take_at (take first l ++ new) (drop behind l) behind long in
      let sum : behind + (end - behind) ≡ end = omega (arith, order) in
      let tail : drop behind m ≡ drop behind l = ap (drop behind) parts ∙ drop_at (take first l ++ new) (drop behind l) behind long in
      let rest : drop (behind + (end - behind)) m ≡ drop end l =
      sym (drop-drop (end - behind) behind m) ∙ (ap (drop (end - behind)) tail ∙ (drop-drop (end - behind) behind l ∙ ap (λ k. drop k l) sum)) in
      other ∙
      (ap (λ t. t ++ drop (behind + (end - behind)) m) front ∙
      (ap (λ t. (take first l ++ new) ++ t) rest ∙ append_assoc (take first l) new (drop end l)))
