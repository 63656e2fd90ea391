-- Units that are taken: one cycle more, and cycles behind the last.
use Rattle.std.proofs.Common.{◌≡◌, ℕ, zero, suc, ◌+◌, ◌-◌, ◌<◌, ◌≤◌, ◌==◌, Bool, true, false, List, [], ◌∷◌, ◌++◌, Some, length, drop, get_or, set, min, max, replicate, inl, inr, append_assoc, refl, sym, ap, ◌∙◌, arith}
use Rattle.std.specs.Prelude.{bit_and, bit_or, slice_get}
use Rattle.std.proofs.lemmas.Bool.{ne_eqb, cases_lt}
use Rattle.std.proofs.lemmas.List.{append-nil, drop_more, drop_all, length-append, length-drop}
use Rattle.std.specs.Int.Bits.{or_zero_l}
use Rattle.dfa_ways.specs.Ways.{Way}
use Rattle.job_order.specs.Slots.{are_apart, is_free, taken_now, taken_from}

-- ---- apart

module _ (taken : List ℕ) (way : Way) (i : ℕ) (all : Bool) (in_taken : i < length taken) (in_way : i < length way) (so_far : are_apart (drop i taken) (drop i way) ≡ all) where
  here : are_apart (get_or taken i 0 ∷ drop (i + 1) taken) (get_or way i 0 ∷ drop (i + 1) way) ≡ all
  here =
      sym (ap (λ (u : List ℕ). are_apart u (drop i way)) (drop_more taken i 0 in_taken)
      ∙ ap (λ (v : Way). are_apart (get_or taken i 0 ∷ drop (i + 1) taken) v) (drop_more way i 0 in_way))
      ∙ so_far

  -- a cycle in which no unit stands in both
  pub apart_next : bit_and (get_or taken i 0) (get_or way i 0) ≡ 0 → are_apart (drop (i + 1) taken) (drop (i + 1) way) ≡ all
  apart_next clear = sym (rw clear refl) ∙ here

  -- one in which a unit does
  pub apart_not : (bit_and (get_or taken i 0) (get_or way i 0) ≡ 0 → ⊥) → all ≡ false
  apart_not both =
      let e : (bit_and (get_or taken i 0) (get_or way i 0) == 0) ≡ false = ne_eqb (bit_and (get_or taken i 0) (get_or way i 0)) 0 both in
      sym here ∙ rw e refl

rest : (u v : List ℕ) → min (length u) (length v) ≡ 0 → are_apart u v ≡ true
rest [] v e = refl
rest (a ∷ u) [] e = refl
rest (a ∷ u) (b ∷ v) e = absurd (omega arith)

pub apart_ends : (taken : List ℕ) (way : Way) (i n : ℕ) (all : Bool) → n ≡ min (length taken) (length way) → n ≤ i → are_apart (drop i taken) (drop i way) ≡ all → all ≡ true
apart_ends taken way i n all is low so_far =
    let lx : length (drop i taken) ≡ length taken - i = length-drop i taken in
    let ly : length (drop i way) ≡ length way - i = length-drop i way in
    let none : min (length (drop i taken)) (length (drop i way)) ≡ 0 = omega arith in
    sym so_far ∙ rest (drop i taken) (drop i way) none

-- behind the last cycle a way is free
pub free_past : (taken : List ℕ) (cycle : ℕ) (way : Way) → length taken ≤ cycle → is_free taken cycle way ≡ true
free_past taken cycle way past = ap (λ (u : List ℕ). are_apart u way) (drop_all cycle taken past)

-- ---- a cycle more behind the last

now_alone : (way : Way) → taken_now [] way ≡ way
now_alone [] = refl
now_alone (units ∷ way) = refl

now_longer : (taken : List ℕ) (way : Way) → length taken < length way → taken_now (taken ++ 0 ∷ []) way ≡ taken_now taken way
now_longer [] [] h = absurd (omega arith)
now_longer [] (units ∷ way) h =
    ap (λ (n : ℕ). n ∷ taken_now [] way) (or_zero_l units) ∙ ap (λ (ws : List ℕ). units ∷ ws) (now_alone way)
now_longer (old ∷ taken) [] h = absurd (omega arith)
now_longer (old ∷ taken) (units ∷ way) h = ap (λ (ts : List ℕ). bit_or old units ∷ ts) (now_longer taken way (omega arith))

pub longer : (taken : List ℕ) (cycle : ℕ) (way : Way) → length taken < cycle + length way → taken_from (taken ++ 0 ∷ []) cycle way ≡ taken_from taken cycle way
longer taken zero way h = now_longer taken way (omega arith)
longer [] (suc cycle) way h = refl
longer (old ∷ taken) (suc cycle) way h = ap (λ (ts : List ℕ). old ∷ ts) (longer taken cycle way (omega arith))

pub longer_by : (n : ℕ) (taken : List ℕ) (cycle : ℕ) (way : Way) → length taken + n ≤ cycle + length way → taken_from (taken ++ replicate n 0) cycle way ≡ taken_from taken cycle way
longer_by zero taken cycle way h = ap (λ (ts : List ℕ). taken_from ts cycle way) (append-nil taken)
longer_by (suc n) taken cycle way h =
    let long : length (taken ++ 0 ∷ []) ≡ length taken + 1 = length-append taken (0 ∷ []) in
    let same : taken ++ replicate (suc n) 0 ≡ (taken ++ 0 ∷ []) ++ replicate n 0 = sym (append_assoc taken (0 ∷ []) (replicate n 0)) in
    ap (λ (ts : List ℕ). taken_from ts cycle way) same ∙ longer_by n (taken ++ 0 ∷ []) cycle way (omega arith) ∙ longer taken cycle way (omega arith)

-- with as many cycles as a way needs
pub padded : (taken all : List ℕ) (cycle : ℕ) (way : Way) → all ≡ taken ++ replicate (length all - length taken) 0 → length all ≡ max (length taken) (cycle + length way) → taken_from all cycle way ≡ taken_from taken cycle way
padded taken all cycle way is long =
    let n : ℕ = length all - length taken in
    ap (λ (ts : List ℕ). taken_from ts cycle way) is
    ∙ elim (cases_lt (length taken) (cycle + length way)) as (λ h. taken_from (taken ++ replicate n 0) cycle way ≡ taken_from taken cycle way) [
      | inl less ↦ longer_by n taken cycle way (omega arith)
      | inr past ↦ let none : n ≡ 0 = omega arith in ap (λ (k : ℕ). taken_from (taken ++ replicate k 0) cycle way) none ∙ ap (λ (ts : List ℕ). taken_from ts cycle way) (append-nil taken)
    ]

-- ---- a cycle more of a way

now_set : (taken : List ℕ) (units : ℕ) (way : Way) → 0 < length taken → taken_from (set taken 0 (bit_or (get_or taken 0 0) units)) 1 way ≡ taken_now taken (units ∷ way)
now_set [] units way h = absurd (omega arith)
now_set (old ∷ taken) units way h = refl

from_set : (taken : List ℕ) (cycle units : ℕ) (way : Way) → cycle < length taken → taken_from (set taken cycle (bit_or (get_or taken cycle 0) units)) (suc cycle) way ≡ taken_from taken cycle (units ∷ way)
from_set [] cycle units way h = absurd (omega arith)
from_set (old ∷ taken) zero units way h = refl
from_set (old ∷ taken) (suc cycle) units way h = ap (λ (ts : List ℕ). old ∷ ts) (from_set taken cycle units way (omega arith))

item_is : (xs : List ℕ) (i x : ℕ) → slice_get xs i ≡ Some x → x ≡ get_or xs i 0
item_is [] i x e = absurd (cc)
item_is (y ∷ xs) zero x e = cc
item_is (y ∷ xs) (suc i) x e = item_is xs i x e

pub way_more : (taken : List ℕ) (cycle i old : ℕ) (way all : List ℕ) → i < length way → slice_get taken (cycle + i) ≡ Some old → cycle + i < length taken → taken_from taken (cycle + i) (drop i way) ≡ all
    → taken_from (set taken (cycle + i) (bit_or old (get_or way i 0))) (cycle + (i + 1)) (drop (i + 1) way) ≡ all
way_more taken cycle i old way all in_way is in_taken so_far =
    let next : cycle + (i + 1) ≡ suc (cycle + i) = omega arith in
    let same : old ≡ get_or taken (cycle + i) 0 = item_is taken (cycle + i) old is in
    rw (next, same) (from_set taken (cycle + i) (get_or way i 0) (drop (i + 1) way) in_taken) ∙ ap (taken_from taken (cycle + i)) (sym (drop_more way i 0 in_way)) ∙ so_far

now_none : (taken : List ℕ) → taken_now taken [] ≡ taken
now_none [] = refl
now_none (old ∷ taken) = refl

from_none : (taken : List ℕ) (cycle : ℕ) → cycle ≤ length taken → taken_from taken cycle [] ≡ taken
from_none taken zero h = now_none taken
from_none [] (suc cycle) h = absurd (omega arith)
from_none (old ∷ taken) (suc cycle) h = ap (λ (ts : List ℕ). old ∷ ts) (from_none taken cycle (omega arith))

pub way_ends : (taken : List ℕ) (cycle i : ℕ) (way all : List ℕ) → length way ≤ i → cycle + i ≤ length taken → taken_from taken (cycle + i) (drop i way) ≡ all → taken ≡ all
way_ends taken cycle i way all end within so_far =
    sym (from_none taken (cycle + i) within) ∙ ap (taken_from taken (cycle + i)) (sym (drop_all i way end)) ∙ so_far
