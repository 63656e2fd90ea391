-- Two ways from the same cycle on: the cycles that were joined, and the rest.
use Rattle.std.proofs.Common.{◌≡◌, ℕ, ◌+◌, ◌-◌, ◌<◌, ◌≤◌, ◌==◌, false, [], ◌∷◌, ◌++◌, Option, Some, None, length, drop, get_or, min, refl, sym, ap, ◌∙◌, append_assoc, arith}
use Rattle.std.specs.Prelude.{bit_and, bit_or}
use Rattle.std.proofs.lemmas.Bool.{ne_eqb}
use Rattle.std.proofs.lemmas.List.{append-nil, drop_more, length-drop}
use Rattle.md_text.proofs.Each.{with_front, with_front-cons}
use Rattle.dfa_ways.specs.Ways.{Way, at_once}

module _ (x y : Way) (i : ℕ) (both : Way) (way : Option Way) (in_x : i < length x) (in_y : i < length y) (so_far : with_front both (at_once (drop i x) (drop i y)) ≡ way) where
  here : with_front both (at_once (get_or x i 0 ∷ drop (i + 1) x) (get_or y i 0 ∷ drop (i + 1) y)) ≡ way
  here =
      sym (ap (λ (u : Way). with_front both (at_once u (drop i y))) (drop_more x i 0 in_x)
      ∙ ap (λ (v : Way). with_front both (at_once (get_or x i 0 ∷ drop (i + 1) x) v)) (drop_more y i 0 in_y))
      ∙ so_far

  -- a cycle in which no unit is taken twice
  pub met : bit_and (get_or x i 0) (get_or y i 0) ≡ 0 → with_front (both ++ bit_or (get_or x i 0) (get_or y i 0) ∷ []) (at_once (drop (i + 1) x) (drop (i + 1) y)) ≡ way
  met clear = sym (with_front-cons both (bit_or (get_or x i 0) (get_or y i 0)) (at_once (drop (i + 1) x) (drop (i + 1) y))) ∙ sym (rw clear refl) ∙ here

  -- one in which a unit is
  pub missed : (bit_and (get_or x i 0) (get_or y i 0) ≡ 0 → ⊥) → way ≡ None
  missed taken =
      let e : (bit_and (get_or x i 0) (get_or y i 0) == 0) ≡ false = ne_eqb (bit_and (get_or x i 0) (get_or y i 0)) 0 taken in
      sym here ∙ rw e refl

-- one of two ways has no cycle more
rest : (u v : Way) → min (length u) (length v) ≡ 0 → at_once u v ≡ Some (u ++ v)
rest [] v e = refl
rest (a ∷ u) [] e = ap (λ (w : Way). Some w) (sym (append-nil (a ∷ u)))
rest (a ∷ u) (b ∷ v) e = absurd (omega arith)

pub at_once_ends : (x y both : Way) (i n : ℕ) (way : Option Way) → n ≡ min (length x) (length y) → n ≤ i → i ≤ n → with_front both (at_once (drop i x) (drop i y)) ≡ way → way ≡ Some ((both ++ drop n x) ++ drop n y)
at_once_ends x y both i n way is low high so_far =
    let same : i ≡ n = omega arith in
    let lx : length (drop n x) ≡ length x - n = length-drop n x in
    let ly : length (drop n y) ≡ length y - n = length-drop n y in
    let none : min (length (drop n x)) (length (drop n y)) ≡ 0 = omega arith in
    let here : with_front both (at_once (drop n x) (drop n y)) ≡ way = ap (λ k. with_front both (at_once (drop k x) (drop k y))) (sym same) ∙ so_far in
    sym here ∙ ap (with_front both) (rest (drop n x) (drop n y) none) ∙ ap (λ (w : Way). Some w) (sym (append_assoc both (drop n x) (drop n y)))
