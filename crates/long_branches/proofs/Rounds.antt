-- Rounds keep what is in every closed set, and where one changes nothing the set is closed.
use Rattle.std.proofs.Common.{◌≡◌, ℕ, ◌+◌, ◌-◌, ◌<◌, ◌≤◌, ◌≢◌, min, Bool, true, false, not, ◌&&◌, ◌||◌, nat_lt, List, length, get_or, replicate, Option, Some, None, ◌⊎◌, inl, inr, refl, sym, ◌∙◌, ap, subst, arith}
use Rattle.std.specs.Prelude.{slice_get, slice_set}
use Rattle.std.proofs.lemmas.Bool.{false≢true, cases_lt}
use Rattle.std.proofs.lemmas.Bool.Decides.{nat_tests}
use Rattle.std.proofs.lemmas.List.{length-replicate}
use Rattle.std.proofs.lemmas.Option.{slice_get_within, slice_get-get_or, unwrap_or-slice_get}
use Rattle.long_branches.specs.Branches.{is_long, place, ArePlaces, Reaches, IsClosed, IsPart, IsLeast, LeastIsOne}
use Rattle.long_branches.specs.machine.Rounds.{reaches, misses, IsRound, HasGrown}
use Rattle.long_branches.specs.declared.piece.Piece.{Piece}
use Rattle.long_branches.specs.declared.piece.Piece.TheVariants.{Fixed, Branch}
use Rattle.long_branches.proofs.Flags.{same_flags, none_long, set_here, set_elsewhere, length_set, count_set}
use Rattle.long_branches.proofs.Apart.{reached, at_most}

pub lt_yes : (k n : ℕ) → k < n → nat_lt k n ≡ true
lt_yes k n h = grind (arith, nat_tests)

pub lt_no : (k n : ℕ) → n ≤ k → nat_lt k n ≡ false
lt_no k n h = grind (arith, nat_tests)

-- ---- what a test of a branch says

reaches_yes : (from to : ℕ) → reaches from to ≡ true → Reaches from to
reaches_yes from to h = (grind (arith, nat_tests), grind (arith, nat_tests))

reaches_all : (from to : ℕ) → Reaches from to → reaches from to ≡ true
reaches_all from to h =
    let a : from ≤ to + 1024 = omega (arith, h.0) in
    let b : to ≤ from + 1023 = omega (arith, h.1) in grind (arith, nat_tests)

module _ (pieces : List Piece) (longs : List Bool) (places : List ℕ) (are : ArePlaces pieces longs places) (at to : ℕ) (within : at < length pieces) where
  tested : misses places (Some (Branch to)) at ≡ not (reaches (place pieces longs at) (place pieces longs to))
  tested =
      let last : length places - 1 ≡ length pieces = omega (arith, are.has_each) in
      let here = are.are at (omega arith) in
      let there = are.are (min to (length pieces)) (omega arith) ∙ at_most pieces longs to in
      ap (λ n. not (reaches (get_or places at 0) (get_or places (min to n) 0))) last ∙ (ap (λ n. not (reaches n (get_or places (min to (length pieces)) 0))) here ∙ ap (λ n. not (reaches (place pieces longs at) n)) there)

  pub hits : misses places (Some (Branch to)) at ≡ false → Reaches (place pieces longs at) (place pieces longs to)
  hits no_miss = by (reaches (place pieces longs at) (place pieces longs to)) refl
    where
      by : (b : Bool) → reaches (place pieces longs at) (place pieces longs to) ≡ b → Reaches (place pieces longs at) (place pieces longs to)
      by true e = reaches_yes (place pieces longs at) (place pieces longs to) e
      by false e = absurd (false≢true (sym no_miss ∙ (tested ∙ ap not e)))

  pub misses_none : misses places (Some (Branch to)) at ≡ true → Reaches (place pieces longs at) (place pieces longs to) → ⊥
  misses_none miss near =
      false≢true (ap not (sym (reaches_all (place pieces longs at) (place pieces longs to) near)) ∙ (sym tested ∙ miss))

-- ---- a round

-- what is long in every closed set is so after it
pub part_kept : (pieces : List Piece) (places : List ℕ) (old new : List Bool) (upto : ℕ) (some : Bool) → ArePlaces pieces old places → IsRound pieces places old new upto some → (others : List Bool) → IsClosed pieces others → IsPart old others → IsPart new others
part_kept pieces places old new upto some are round others closed part at long =
    by_old (is_long old at) refl (misses places (slice_get pieces at) at) refl (sym (round.are at) ∙ long)
  where
    by_others : (to : ℕ) → slice_get pieces at ≡ Some (Branch to) → misses places (Some (Branch to)) at ≡ true → (b : Bool) → is_long others at ≡ b → is_long others at ≡ true
    by_others to is miss true e = e
    by_others to is miss false e =
        absurd (misses_none pieces old places are at to (slice_get_within pieces at (Branch to) is) miss (reached pieces old others part at to (closed at to is e)))

    by_piece : (piece : Option Piece) → slice_get pieces at ≡ piece → misses places piece at ≡ true → is_long others at ≡ true
    by_piece None is miss = absurd (false≢true miss)
    by_piece (Some (Fixed words)) is miss = absurd (false≢true miss)
    by_piece (Some (Branch to)) is miss = by_others to is miss (is_long others at) refl

    by_old : (b : Bool) → is_long old at ≡ b → (m : Bool) → misses places (slice_get pieces at) at ≡ m → (is_long old at || (nat_lt at upto && misses places (slice_get pieces at) at)) ≡ true → is_long others at ≡ true
    by_old true e m is either = part at e
    by_old false e true is either = by_piece (slice_get pieces at) refl is
    by_old false e false is either =
        absurd (false≢true (sym (ap (λ b. b || (nat_lt at upto && misses places (slice_get pieces at) at)) e ∙ (ap (λ m. nat_lt at upto && m) is ∙ and_false (nat_lt at upto))) ∙ either))
      where
        and_false : (b : Bool) → (b && false) ≡ false
        and_false true = refl
        and_false false = refl

-- where it changes nothing, the set is closed
pub closed_then : (pieces : List Piece) (places : List ℕ) (old new : List Bool) → ArePlaces pieces old places → IsRound pieces places old new (length pieces) false → IsClosed pieces old
closed_then pieces places old new are round at to is short =
    let within = slice_get_within pieces at (Branch to) is in
    let stays : is_long new at ≡ false = ap (λ flags. is_long flags at) (round.same refl) ∙ short in
    let all = sym (round.are at) ∙ stays in
    let none : misses places (slice_get pieces at) at ≡ false = simp (short, lt_yes at (length pieces) within) at all in
    hits pieces old places are at to within (ap (λ piece. misses places piece at) (sym is) ∙ none)

-- ---- a step of a round

module _ (pieces : List Piece) (places : List ℕ) (old new : List Bool) (at : ℕ) (some : Bool) (piece : Piece) (is : slice_get pieces at ≡ Some piece) (round : IsRound pieces places old new at some) where
  here_before : is_long new at ≡ is_long old at
  here_before = round.are at ∙ (ap (λ b. is_long old at || (b && misses places (slice_get pieces at) at)) (lt_no at at (omega arith)) ∙ or_false (is_long old at))
    where
      or_false : (b : Bool) → (b || false) ≡ b
      or_false true = refl
      or_false false = refl

  elsewhere : (k : ℕ) → k ≢ at → nat_lt k (at + 1) ≡ nat_lt k at
  elsewhere k other = elim (cases_lt k at) [
    | inl before ↦ lt_yes k (at + 1) (omega arith) ∙ sym (lt_yes k at before)
    | inr behind ↦ lt_no k (at + 1) (omega arith) ∙ sym (lt_no k at behind)
  ]

  others : (k : ℕ) → k ≢ at → is_long new k ≡ (is_long old k || (nat_lt k (at + 1) && misses places (slice_get pieces k) k))
  others k other = round.are k ∙ ap (λ b. is_long old k || (b && misses places (slice_get pieces k) k)) (sym (elsewhere k other))

  here_then : (is_long old at || (nat_lt at (at + 1) && misses places (slice_get pieces at) at)) ≡ (is_long old at || misses places (Some piece) at)
  here_then = ap (λ b. is_long old at || (b && misses places (slice_get pieces at) at)) (lt_yes at (at + 1) (omega arith)) ∙ ap (λ p. is_long old at || misses places p at) is

  pub round_kept : (is_long new at ≡ true) ⊎ (misses places (Some piece) at ≡ false) → IsRound pieces places old new (at + 1) some
  round_kept either = record {
    has_each = round.has_each;
    are = λ k. elim (cases_lt k at) [
      | inl before ↦ others k (omega arith)
      | inr behind ↦ elim (cases_lt at k) [ inl further ↦ others k (omega arith) | inr same ↦ at_it k (omega arith) ]
    ];
    same = round.same;
    more = round.more;
    not_fewer = round.not_fewer;
  }
    where
      by : (b m : Bool) → (b ≡ true) ⊎ (m ≡ false) → b ≡ (b || m)
      by true m e = refl
      by false false e = refl
      by false true (inl e) = absurd (false≢true e)
      by false true (inr e) = absurd (false≢true (sym e))

      first : (is_long new at ≡ true) ⊎ (misses places (Some piece) at ≡ false) → (is_long old at ≡ true) ⊎ (misses places (Some piece) at ≡ false)
      first (inl e) = inl (sym here_before ∙ e)
      first (inr e) = inr e

      at_it : (k : ℕ) → k ≡ at → is_long new k ≡ (is_long old k || (nat_lt k (at + 1) && misses places (slice_get pieces k) k))
      at_it k e =
          let P : ℕ → Type 0 = λ n. is_long new n ≡ (is_long old n || (nat_lt n (at + 1) && misses places (slice_get pieces n) n)) in
          subst P (sym e) (here_before ∙ (by (is_long old at) (misses places (Some piece) at) (first either) ∙ sym here_then))

  pub round_set : at < length new → is_long new at ≡ false → misses places (Some piece) at ≡ true → IsRound pieces places old (slice_set new at true) (at + 1) true
  round_set within short miss = record {
    has_each = length_set new at ∙ round.has_each;
    are = λ k. elim (cases_lt k at) [
      | inl before ↦ set_elsewhere new at k (omega arith) ∙ others k (omega arith)
      | inr behind ↦ elim (cases_lt at k) [
        | inl further ↦ set_elsewhere new at k (omega arith) ∙ others k (omega arith)
        | inr same ↦ at_it k (omega arith)
      ]
    ];
    same = λ e. absurd (false≢true (sym e));
    more = λ e. omega (arith, round.not_fewer, count_set new at within short);
    not_fewer = omega (arith, round.not_fewer, count_set new at within short);
  }
    where
      or_true : (b : Bool) → (b || true) ≡ true
      or_true true = refl
      or_true false = refl

      at_it : (k : ℕ) → k ≡ at → is_long (slice_set new at true) k ≡ (is_long old k || (nat_lt k (at + 1) && misses places (slice_get pieces k) k))
      at_it k e =
          let P : ℕ → Type 0 = λ n. is_long (slice_set new at true) n ≡ (is_long old n || (nat_lt n (at + 1) && misses places (slice_get pieces n) n)) in
          subst P (sym e) (set_here new at within ∙ sym (here_then ∙ (ap (λ m. is_long old at || m) miss ∙ or_true (is_long old at))))

-- ---- the least set

pub least_then : (pieces : List Piece) (places : List ℕ) (old new : List Bool) (some : Bool) → HasGrown pieces old → ArePlaces pieces old places → IsRound pieces places old new (length pieces) some → some ≡ false → IsLeast pieces new
least_then pieces places old new some grown are round none =
    let P : List Bool → Type 0 = λ flags. IsLeast pieces flags in
    let R : Bool → Type 0 = λ b. IsRound pieces places old new (length pieces) b in
    subst P (sym (round.same none)) (record { has_each = grown.has_each; is_closed = closed_then pieces places old new are (subst R none round); is_part = grown.is_part })

pub least_is_one : LeastIsOne
least_is_one pieces a b least_a least_b =
    same_flags a b (least_a.has_each ∙ sym least_b.has_each) (λ at. both (is_long a at) refl (is_long b at) refl (least_a.is_part b least_b.is_closed at) (least_b.is_part a least_a.is_closed at))
  where
    both : {p q : Bool} (x : Bool) → p ≡ x → (y : Bool) → q ≡ y → (p ≡ true → q ≡ true) → (q ≡ true → p ≡ true) → p ≡ q
    both true e y f there back = e ∙ sym (there e)
    both false e true f there back = back f ∙ sym f
    both false e false f there back = e ∙ sym f

pub grown_then : (pieces : List Piece) (places : List ℕ) (old new : List Bool) (some : Bool) → ArePlaces pieces old places → IsRound pieces places old new (length pieces) some → HasGrown pieces old → HasGrown pieces new
grown_then pieces places old new some are round grown = record {
  has_each = round.has_each ∙ grown.has_each;
  is_part = λ others closed. part_kept pieces places old new (length pieces) some are round others closed (grown.is_part others closed);
}

pub nothing_grown : (pieces : List Piece) → HasGrown pieces (replicate (length pieces) false)
nothing_grown pieces = record {
  has_each = length-replicate (length pieces) false;
  is_part = λ others closed at long. absurd (false≢true (sym (none_long (length pieces) at) ∙ long));
}

-- the flag and the piece that the code reads
pub stepped : (pieces : List Piece) (places : List ℕ) (old longs new : List Bool) (at : ℕ) (some now : Bool) (default : Piece) → IsRound pieces places old longs at some → at < length pieces → at < length longs → get_or longs at false ≡ false → misses places (Some (get_or pieces at default)) at ≡ true → new ≡ slice_set longs at true → now ≡ true → IsRound pieces places old new (at + 1) now
stepped pieces places old longs new at some now default round inside within short miss new_is now_is =
    let R : List Bool → Type 0 = λ flags. IsRound pieces places old flags (at + 1) now in
    let S : Bool → Type 0 = λ b. IsRound pieces places old (slice_set longs at true) (at + 1) b in
    subst R (sym new_is) (subst S (sym now_is) (round_set pieces places old longs at some (get_or pieces at default) (slice_get-get_or pieces at default inside) round within (unwrap_or-slice_get longs at false ∙ short) miss))

pub stayed : (pieces : List Piece) (places : List ℕ) (old longs new : List Bool) (at : ℕ) (some now : Bool) (default : Piece) → IsRound pieces places old longs at some → at < length pieces → (get_or longs at false ≡ true) ⊎ (misses places (Some (get_or pieces at default)) at ≡ false) → new ≡ longs → now ≡ some → IsRound pieces places old new (at + 1) now
stayed pieces places old longs new at some now default round inside either new_is now_is =
    let R : List Bool → Type 0 = λ flags. IsRound pieces places old flags (at + 1) now in
    let S : Bool → Type 0 = λ b. IsRound pieces places old longs (at + 1) b in
    subst R (sym new_is) (subst S (sym now_is) (round_kept pieces places old longs at some (get_or pieces at default) (slice_get-get_or pieces at default inside) round (read either)))
  where
    read : (get_or longs at false ≡ true) ⊎ (misses places (Some (get_or pieces at default)) at ≡ false) → (is_long longs at ≡ true) ⊎ (misses places (Some (get_or pieces at default)) at ≡ false)
    read (inl e) = inl (unwrap_or-slice_get longs at false ∙ e)
    read (inr e) = inr e
