-- What a set of words has after a write to one of them.
use Rattle.std.proofs.Common.{◌≡◌, ℕ, ◌+◌, ◌-◌, ◌*◌, ◌/◌, ◌%◌, ◌^◌, ◌<◌, ◌≤◌, ◌≢◌, Bool, true, false, not, ◌&&◌, ◌||◌, eqb, List, [], ◌∷◌, ◌++◌, length, get_or, set, max, refl, sym, ap, below_more, sum, replicate, ◌∙◌, inl, inr, arith}
use Rattle.std.specs.Int.{bit_at, w64}
use Rattle.std.specs.Int.RustNames.{bit_or, bit_and}
use Rattle.std.proofs.lemmas.Nat.Bits.{bit_at-lt, bit_at_or, bit_at_set_same, bit_at_set_other, bit_at_clear_same, bit_at_clear_other, bit_at-zero, shr_and_one}
use Rattle.std.proofs.lemmas.List.{get_or-set_same, get_or-set_other, get_or_past, get_or-replicate, length-replicate, length-set, get_or_append_left, length-append}
use Rattle.std.proofs.Math.Seq.{get_or-append_seam}
use Rattle.std.proofs.lemmas.Nat.{le_or_l}
use Rattle.std.proofs.lemmas.Bool.{cases_eq, cases_lt, eq-eqb, ne_eqb, true≢false}
use Rattle.std.proofs.lemmas.Bool.Decides.{nat_tests}
use Rattle.std.proofs.lemmas.List.Sums.{sum_by-set, sum_by-le}
use Rattle.std.proofs.lemmas.List.Elements.{All-from_get_or}
use Rattle.reg_rows.specs.Row.{has}

pub one_of_max : (a b : ℕ) → a < 2 → b < 2 → eqb (max a b) 1 ≡ (eqb a 1 || eqb b 1)
one_of_max a b ha hb = grind (arith, nat_tests)

or_no : (x y : Bool) → y ≡ false → x ≡ (x || y)
or_no true y e = refl
or_no false y e = sym e

or_yes : (x y : Bool) → y ≡ true → true ≡ (x || y)
or_yes true y e = refl
or_yes false y e = sym e

and_not_no : (x y : Bool) → y ≡ false → x ≡ (x && not y)
and_not_no true true e = cc
and_not_no true false e = refl
and_not_no false y e = refl

and_not_yes : (x y : Bool) → y ≡ true → false ≡ (x && not y)
and_not_yes true true e = refl
and_not_yes true false e = cc
and_not_yes false y e = refl

-- one place is a word and a bit
pub same_place : (q r : ℕ) → q / 64 ≡ r / 64 → q % 64 ≡ r % 64 → q ≡ r
same_place q r h l = omega arith

-- the test that the code makes
pub has_is : (words : List ℕ) (r : ℕ) → eqb (bit_and (get_or words (r / 64) 0 / 2 ^ (r % 64)) 1) 1 ≡ has words r
unfolding has
has_is words r = rw shr_and_one refl

pub has_past : (words : List ℕ) (r : ℕ) → length words ≤ r / 64 → has words r ≡ false
unfolding has
has_past words r h = rw get_or_past (rw bit_at-zero refl)

has_set_same : (words : List ℕ) (w v q : ℕ) → w < length words → q / 64 ≡ w → has (set words w v) q ≡ eqb (bit_at v (q % 64)) 1
unfolding has
has_set_same words w v q h e = rw (e, get_or-set_same) refl

has_set_other : (words : List ℕ) (w v q : ℕ) → q / 64 ≢ w → has (set words w v) q ≡ has words q
unfolding has
has_set_other words w v q e = rw get_or-set_other refl

has_at : (words : List ℕ) (w q : ℕ) → q / 64 ≡ w → eqb (bit_at (get_or words w 0) (q % 64)) 1 ≡ has words q
unfolding has
has_at words w q e = rw e refl

pub has_insert : (words : List ℕ) (r : ℕ) → r < 64 * length words → (q : ℕ) → has (set words (r / 64) (bit_or (get_or words (r / 64) 0) (1 * 2 ^ (r % 64) % 18446744073709551616))) q ≡ (has words q || eqb q r)
has_insert words r h q =
    let in_words : r / 64 < length words = omega arith in
    let in_word : r % 64 < 64 = omega arith in
    elim (cases_eq (q / 64) (r / 64)) [
      | inl e ↦ has_set_same words (r / 64) _ q in_words e ∙ elim (cases_eq (q % 64) (r % 64)) [
        | inl b ↦ ap (λ k. eqb (bit_at (bit_or (get_or words (r / 64) 0) (1 * 2 ^ (r % 64) % 18446744073709551616)) k) 1) b ∙ ap (λ v. eqb v 1) (bit_at_set_same w64 _ _ in_word) ∙ or_yes (has words q) (eqb q r) (eq-eqb q r (same_place q r e b))
        | inr b ↦ ap (λ v. eqb v 1) (bit_at_set_other w64 _ _ in_word _ b) ∙ has_at words (r / 64) q e ∙ or_no (has words q) (eqb q r) (ne_eqb q r (λ s. b (ap (λ n. n % 64) s)))
      ]
      | inr e ↦ has_set_other words (r / 64) _ q e ∙ or_no (has words q) (eqb q r) (ne_eqb q r (λ s. e (ap (λ n. n / 64) s)))
    ]

pub has_remove : (words : List ℕ) (r : ℕ) → r / 64 < length words → (q : ℕ) → has (set words (r / 64) (bit_and (get_or words (r / 64) 0) (18446744073709551615 - 1 * 2 ^ (r % 64) % 18446744073709551616))) q ≡ (has words q && not (eqb q r))
has_remove words r in_words q =
    let in_word : r % 64 < 64 = omega arith in
    let in_word' : q % 64 < 64 = omega arith in
    elim (cases_eq (q / 64) (r / 64)) [
      | inl e ↦ has_set_same words (r / 64) _ q in_words e ∙ elim (cases_eq (q % 64) (r % 64)) [
        | inl b ↦ ap (λ k. eqb (bit_at (bit_and (get_or words (r / 64) 0) (18446744073709551615 - 1 * 2 ^ (r % 64) % 18446744073709551616)) k) 1) b ∙ ap (λ v. eqb v 1) (bit_at_clear_same w64 _ _ in_word) ∙ and_not_yes (has words q) (eqb q r) (eq-eqb q r (same_place q r e b))
        | inr b ↦ ap (λ v. eqb v 1) (bit_at_clear_other w64 _ _ in_word _ in_word' b) ∙ has_at words (r / 64) q e ∙ and_not_no (has words q) (eqb q r) (ne_eqb q r (λ s. b (ap (λ n. n % 64) s)))
      ]
      | inr e ↦ has_set_other words (r / 64) _ q e ∙ and_not_no (has words q) (eqb q r) (ne_eqb q r (λ s. e (ap (λ n. n / 64) s)))
    ]

pub has_joined : (into from all : List ℕ) → ((k : ℕ) → get_or all k 0 ≡ bit_or (get_or into k 0) (get_or from k 0)) → (q : ℕ) → has all q ≡ (has into q || has from q)
unfolding has
has_joined into from all h q =
    let i = q / 64 in
    let a = bit_at (get_or into i 0) (q % 64) in
    let b = bit_at (get_or from i 0) (q % 64) in
    ap (λ v. eqb (bit_at v (q % 64)) 1) (h i) ∙ (ap (λ v. eqb v 1) (bit_at_or (get_or into i 0) (get_or from i 0) (q % 64)) ∙ one_of_max a b (bit_at-lt (get_or into i 0) (q % 64)) (bit_at-lt (get_or from i 0) (q % 64)))

-- the words before a place stay joined, and the one at it is
pub join_more : (into start from : List ℕ) (i v : ℕ) → i < length into → v ≡ bit_or (get_or into i 0) (get_or from i 0) → ((k : ℕ) → k < i → get_or into k 0 ≡ bit_or (get_or start k 0) (get_or from k 0)) → ((k : ℕ) → i ≤ k → get_or into k 0 ≡ get_or start k 0) → (k : ℕ) → k < i + 1 → get_or (set into i v) k 0 ≡ bit_or (get_or start k 0) (get_or from k 0)
join_more into start from i v h e done rest =
    below_more _ _
    (λ k l. let ne : k ≢ i = omega arith in rw get_or-set_other (done k l))
    (rw get_or-set_same (e ∙ ap (λ x. bit_or x (get_or from i 0)) (rest i (omega arith))))

-- past both, each word is 0
pub join_past : (into start from : List ℕ) → length into ≡ length start → length start ≡ length from → ((k : ℕ) → k < length into → get_or into k 0 ≡ bit_or (get_or start k 0) (get_or from k 0)) → (k : ℕ) → get_or into k 0 ≡ bit_or (get_or start k 0) (get_or from k 0)
join_past into start from a b done k =
    elim (cases_lt k (length into)) [
      | inl l ↦ done k l
      | inr p ↦ get_or_past into k 0 p ∙ sym (ap (λ x. bit_or x (get_or from k 0)) (get_or_past start k 0 (omega arith)) ∙ ap (λ x. bit_or 0 x) (get_or_past from k 0 (omega arith)))
    ]

-- a word that is written over grows the sum
pub sum_grows : (into : List ℕ) (i v : ℕ) → i < length into → v ≢ get_or into i 0 → get_or into i 0 ≤ v → sum into < sum (set into i v)
sum_grows into i v h ne le = omega (arith, sum_by-set (λ x. x) into i v 0 h)

-- a register past the words is not there to be taken out
pub has_remove_past : (words : List ℕ) (r : ℕ) → length words ≤ r / 64 → (q : ℕ) → has words q ≡ (has words q && not (eqb q r))
has_remove_past words r past q =
    elim (cases_eq q r) [
      | inl e ↦ ap (has words) e ∙ has_past words r past ∙ and_not_yes (has words q) (eqb q r) (eq-eqb q r e)
      | inr ne ↦ and_not_no (has words q) (eqb q r) (ne_eqb q r ne)
    ]

-- the words below i are joined, and the others are as at the start
pub record IsJoined (start from into : List ℕ) (i : ℕ) (changed : Bool) : Type 0 where
  pub done : (k : ℕ) → k < i → get_or into k 0 ≡ bit_or (get_or start k 0) (get_or from k 0)
  pub rest : (k : ℕ) → i ≤ k → get_or into k 0 ≡ get_or start k 0
  pub same : changed ≡ false → into ≡ start
  pub grown : changed ≡ true → sum start < sum into

sum_kept : (start from into : List ℕ) (i : ℕ) (changed : Bool) → IsJoined start from into i changed → sum start ≤ sum into
sum_kept start from into i true j = let l : sum start < sum into = j.grown refl in omega arith
sum_kept start from into i false j = let e : sum into ≡ sum start = ap sum (j.same refl) in omega arith

pub IsJoined-write : (start from into : List ℕ) (i : ℕ) (changed : Bool) → i < length into → IsJoined start from into i changed → (bit_or (get_or into i 0) (get_or from i 0) ≡ get_or into i 0 → ⊥) → IsJoined start from (set into i (bit_or (get_or into i 0) (get_or from i 0))) (i + 1) true
IsJoined-write start from into i changed h j ne =
    let v = bit_or (get_or into i 0) (get_or from i 0) in
    let kept : sum start ≤ sum into = sum_kept start from into i changed j in
    let grows : sum into < sum (set into i v) = sum_grows into i v h ne (le_or_l _ _) in
    record {
      done = join_more into start from i v h refl j.done j.rest;
      rest = λ k l. (let ne' : k ≢ i = omega arith in rw get_or-set_other (j.rest k (omega arith)));
      same = λ e. absurd (true≢false e);
      grown = λ e. omega arith;
    }

pub IsJoined-keep : (start from into : List ℕ) (i : ℕ) (changed : Bool) → IsJoined start from into i changed → bit_or (get_or into i 0) (get_or from i 0) ≡ get_or into i 0 → IsJoined start from into (i + 1) changed
IsJoined-keep start from into i changed j e =
    record {
      done = below_more _ _ j.done (sym e ∙ ap (λ x. bit_or x (get_or from i 0)) (j.rest i (omega arith)));
      rest = λ k l. j.rest k (omega arith);
      same = j.same;
      grown = j.grown;
    }

-- words that are 0 have no register
pub has_none : (words : List ℕ) → ((k : ℕ) → k < length words → get_or words k 0 ≡ 0) → (q : ℕ) → has words q ≡ false
unfolding has
has_none words h q =
    elim (cases_lt (q / 64) (length words)) [
      | inl l ↦ rw (h (q / 64) l, bit_at-zero) refl
      | inr p ↦ has_past words q p
    ]

-- words of 64 bits
pub sum_fits : (words : List ℕ) → ((k : ℕ) → k < length words → get_or words k 0 < 2 ^ 64) → sum words ≤ length words * (2 ^ 64 - 1)
sum_fits words h =
    sum_by-le (λ x. x) (2 ^ 64 - 1) words (All-from_get_or (λ x. x ≤ 2 ^ 64 - 1) words 0 (λ i l. (let b : get_or words i 0 < 2 ^ 64 = h i l in omega arith)))

pub has_zero : (n q : ℕ) → has (replicate n 0) q ≡ false
has_zero n q = has_none (replicate n 0) (λ k h. get_or-replicate n k 0 0 (omega (arith, length-replicate {A = ℕ} n 0))) q

-- a word that is 0 has none of its registers
pub has_zero_word : (words : List ℕ) (word q : ℕ) → get_or words word 0 ≡ 0 → q / 64 ≡ word → has words q ≡ false
unfolding has
has_zero_word words word q none e = rw (e, none, bit_at-zero) refl

-- a word that is written over by one of 64 bits
pub set_fits : (words : List ℕ) (i v : ℕ) → i < length words → ((k : ℕ) → k < length words → get_or words k 0 < 2 ^ 64) → v < 2 ^ 64 → sum (set words i v) ≤ length (set words i v) * (2 ^ 64 - 1)
set_fits words i v within all small = sum_fits (set words i v) each
  where
    each : (k : ℕ) → k < length (set words i v) → get_or (set words i v) k 0 < 2 ^ 64
    each k l =
        elim (cases_eq k i) [
          | inl e ↦ let h : get_or (set words i v) k 0 ≡ v = ap (λ j. get_or (set words i v) j 0) e ∙ get_or-set_same words i v 0 within in omega arith
          | inr ne ↦ let h : get_or (set words i v) k 0 ≡ get_or words k 0 = get_or-set_other words i k v 0 ne in let b = all k (omega (arith, length-set words i v)) in omega arith
        ]

zero_at_end : (words : List ℕ) (w : ℕ) → get_or (words ++ 0 ∷ []) w 0 ≡ get_or words w 0
zero_at_end words w =
    elim (cases_lt w (length words)) [
      | inl less ↦ get_or_append_left words (0 ∷ []) 0 w less
      | inr past ↦ elim (cases_eq w (length words)) [
        | inl end ↦ ap (λ i. get_or (words ++ 0 ∷ []) i 0) end ∙ get_or-append_seam words 0 [] 0 ∙ sym (get_or_past words w 0 past)
        | inr other ↦ get_or_past (words ++ 0 ∷ []) w 0 (let len = length-append words (0 ∷ []) in omega arith) ∙ sym (get_or_past words w 0 past)
      ]
    ]

-- a word of no bits more changes nothing
pub has_more : (words : List ℕ) (q : ℕ) → has (words ++ 0 ∷ []) q ≡ has words q
unfolding has
has_more words q = ap (λ v. eqb (bit_at v (q % 64)) 1) (zero_at_end words (q / 64))
