-- Operands with one holder are moved both or neither, and of those that aren't moved what their
-- digits keep is the same.
use Rattle.std.proofs.Common.{◌≡◌, ℕ, zero, suc, ◌<◌, ⊎_elim, min, Bool, true, false, not, ◌||◌, cond, List, [], ◌∷◌, length, Option, Some, None, slice_get, refl, sym, ap, subst, ◌∙◌, arith}
use Rattle.std.specs.List.{list_any, find}
use Rattle.std.specs.Option.{option_map, option_map_or, unwrap_or}
use Rattle.std.specs.Prelude.{if◌then◌else◌}
use Rattle.std.proofs.lemmas.Bool.{and_parts, and_from, or_left, or_right, not-true, eq-eqb, cases_lt}
use Rattle.reload_moves.specs.declared.fitting.Digit.{Digit}
use Rattle.reload_moves.specs.declared.fitting.Fitting.{Fitting}
use Rattle.reload_moves.specs.Moved.{is_marked, is_tied, are_other, is_torn, names_first, draws, is_drawn, is_moved_next, round, first_of, is_kept, first_kept, kept_of, named_by, link_of, link, end_of, least_on, holder_of}
use Rattle.reload_choice.proofs.RoundLaws.{there, mark_of, InOrder}

-- ---- tests

any_at : {X : Type 0} (test : X → Bool) (xs : List X) (i : ℕ) (x : X) → slice_get xs i ≡ Some x →
    test x ≡ true → list_any test xs ≡ true
any_at test [] i x at h = absurd (let never : ⊥ = cc in never)
any_at test (y ∷ ys) zero x at h = let same : y ≡ x = cc in
    or_left (test y) (list_any test ys) (ap test same ∙ h)
any_at test (y ∷ ys) (suc i) x at h = or_right (test y) (list_any test ys) (any_at test ys i x at h)

-- each of some digits has something
abbrev pub EachDigit : (Digit → Type 0) → List Digit → Type 0
EachDigit Has [] = Unit {0}
EachDigit Has (d ∷ more) = Has d × EachDigit Has more

found_digit : (Has : Digit → Type 0) (test : Digit → Bool) (ds : List Digit) → EachDigit Has ds →
    (d : Digit) → find test ds ≡ Some d → (test d ≡ true) × Has d
found_digit Has test [] each d found = absurd (let never : ⊥ = cc in never)
found_digit Has test (e ∷ more) each d found =
    split (test e) refl found (found_digit Has test more each.1 d)
  where
    split : (t : Bool) → test e ≡ t → cond t (Some e) (find test more) ≡ Some d →
        (find test more ≡ Some d → (test d ≡ true) × Has d) → (test d ≡ true) × Has d
    split true passes is later = let same : e ≡ d = cc in
        (ap test (sym same) ∙ passes, subst Has same each.0)
    split false fails is later = later is

-- ---- what links keep

-- what each link keeps, the holder keeps
module _ {X : Type 0} (value : ℕ → X) (next : ℕ → ℕ) (keeps : (i : ℕ) → value (next i) ≡ value i)
  where
    end_keeps : (more : List Fitting) (i : ℕ) → value (end_of next more i) ≡ value i
    end_keeps [] i = refl
    end_keeps (f ∷ more) i = end_keeps more (next i) ∙ keeps i

    min_keeps : (a b i : ℕ) → value a ≡ value i → value b ≡ value i → value (min a b) ≡ value i
    min_keeps a b i first second = ⊎_elim
        (λ less. let is : min a b ≡ a = omega (arith, less) in ap value is ∙ first)
        (λ more. let is : min a b ≡ b = omega (arith, more) in ap value is ∙ second)
        (cases_lt a b)

    least_keeps : (more : List Fitting) (least i : ℕ) → value least ≡ value i →
        value (least_on next more least i) ≡ value i
    least_keeps [] least i e = e
    least_keeps (f ∷ more) least i e =
        least_keeps more (min least (next i)) (next i)
        (min_keeps least (next i) (next i) (e ∙ sym (keeps i)) refl) ∙ keeps i

pub holder_keeps : {X : Type 0} (value : ℕ → X) (fits : List Fitting) (moved : List Bool) →
    ((i : ℕ) → value (link fits moved i) ≡ value i) →
    (i : ℕ) → value (holder_of fits moved i) ≡ value i
holder_keeps value fits moved keeps i =
    let end = end_of (link fits moved) fits i in
    least_keeps value (link fits moved) keeps fits end end refl ∙
    end_keeps value (link fits moved) keeps fits i

-- ---- marks

-- a digit names one of so many operands
abbrev pub IsWithin : ℕ → Digit → Type 0
IsWithin n d = d.place < n

abbrev pub AreWithin : List Fitting → Type 0
AreWithin fits = (i : ℕ) (f : Fitting) → slice_get fits i ≡ Some f →
    EachDigit (IsWithin (length fits)) f.digits

module _ (fits : List Fitting) (moved : List Bool) (order : InOrder fits) (within : AreWithin fits)
    (settled : round fits moved ≡ moved) where
  mark_is : (i : ℕ) (f : Fitting) → slice_get fits i ≡ Some f →
      is_marked moved i ≡ is_moved_next fits moved f
  mark_is i f at = ap (λ (row : List Bool). is_marked row i) (sym settled) ∙
      mark_of (is_moved_next fits moved) fits i f at

  -- what a tied one that is moved names first is moved
  first_marked : (i : ℕ) (f : Fitting) (d : Digit) (more : List Digit) → slice_get fits i ≡ Some f →
      is_tied f.standing ≡ true → is_marked moved f.place ≡ true →
      f.digits ≡ d ∷ more → is_marked moved d.place ≡ true
  first_marked i f d more at tied marked is =
      let bound : d.place < length fits =
      (subst (EachDigit (IsWithin (length fits))) is (within i f at)).0 in
      let named = there fits d.place bound in
      let torn = and_from (is_tied f.standing) (is_marked moved f.place || are_other moved f.digits)
      tied (or_left (is_marked moved f.place) (are_other moved f.digits) marked) in
      let first = ap (names_first d.place) is ∙ eq-eqb d.place d.place refl in
      let drawn = any_at (draws moved d.place) fits i f at
      (and_from (is_torn moved f) (names_first d.place f.digits) torn first) in
      let drawn_there = ap (is_drawn fits moved) (order d.place named.0 named.1) ∙ drawn in
      mark_is d.place named.0 named.1 ∙
      or_right (is_marked moved named.0.place)
      (is_torn moved named.0 || is_drawn fits moved named.0.place)
      (or_right (is_torn moved named.0) (is_drawn fits moved named.0.place) drawn_there)

  -- by its first digit, or else by the first that is kept
  named_mark : (i : ℕ) (f : Fitting) → slice_get fits i ≡ Some f → is_tied f.standing ≡ true →
      (t : Bool) → is_marked moved f.place ≡ t →
      is_marked moved
      (unwrap_or (if t then first_of f.digits else kept_of moved f.digits) f.place) ≡ t
  named_mark i f at tied true marked = by_first f.digits refl
    where
      by_first : (ds : List Digit) → f.digits ≡ ds →
          is_marked moved (unwrap_or (first_of ds) f.place) ≡ true
      by_first [] is = marked
      by_first (d ∷ more) is = first_marked i f d more at tied marked is
  named_mark i f at tied false unmarked = by_kept (first_kept moved f.digits) refl
    where
      by_kept : (o : Option Digit) → first_kept moved f.digits ≡ o →
          is_marked moved (unwrap_or (option_map (λ (d : Digit). d.place) o) f.place) ≡ false
      by_kept None none = unmarked
      by_kept (Some d) found =
          let kept = (found_digit (IsWithin (length fits)) (is_kept moved) f.digits (within i f at)
          d found).0 in
          not-true (is_marked moved d.place)
          (and_parts d.same (not (is_marked moved d.place)) kept).1

  link_of_mark : (i : ℕ) (f : Fitting) → slice_get fits i ≡ Some f → (t : Bool) →
      is_tied f.standing ≡ t →
      is_marked moved (if t then unwrap_or (named_by moved f) f.place else f.place) ≡
      is_marked moved f.place
  link_of_mark i f at true tied = named_mark i f at tied (is_marked moved f.place) refl
  link_of_mark i f at false loose = refl

  link_mark : (i : ℕ) → is_marked moved (link fits moved i) ≡ is_marked moved i
  link_mark i = split (slice_get fits i) refl
    where
      split : (o : Option Fitting) → slice_get fits i ≡ o →
          is_marked moved (option_map_or (link_of moved) o i) ≡ is_marked moved i
      split None none = refl
      split (Some f) at = link_of_mark i f at (is_tied f.standing) refl ∙
          ap (is_marked moved) (order i f at)

  holder_mark : (i : ℕ) → is_marked moved (holder_of fits moved i) ≡ is_marked moved i
  holder_mark i = holder_keeps (is_marked moved) fits moved link_mark i

  pub marked_together : (i j : ℕ) → holder_of fits moved i ≡ holder_of fits moved j →
      is_marked moved i ≡ is_marked moved j
  marked_together i j one = sym (holder_mark i) ∙ (ap (is_marked moved) one ∙ holder_mark j)

  -- ---- what is kept

  -- each digit whose operand is the same keeps a value of it
  module _ {X : Type 0} (value : ℕ → X) (same : (i : ℕ) (f : Fitting) → slice_get fits i ≡ Some f →
      EachDigit (λ d. d.same ≡ true → value d.place ≡ value i) f.digits) where
    -- the value of what isn't moved
    shown_by : Bool → ℕ → Option X
    shown_by true i = None
    shown_by false i = Some (value i)

    shown : ℕ → Option X
    shown i = shown_by (is_marked moved i) i

    kept_value : (i : ℕ) (f : Fitting) → slice_get fits i ≡ Some f →
        is_marked moved f.place ≡ false →
        value (unwrap_or (kept_of moved f.digits) f.place) ≡ value i
    kept_value i f at unmarked = by_kept (first_kept moved f.digits) refl
      where
        by_kept : (o : Option Digit) → first_kept moved f.digits ≡ o →
            value (unwrap_or (option_map (λ (d : Digit). d.place) o) f.place) ≡ value i
        by_kept None none = ap value (order i f at)
        by_kept (Some d) found =
            let kept = found_digit (λ (d : Digit). d.same ≡ true → value d.place ≡ value i)
            (is_kept moved) f.digits (same i f at) d found in
            kept.1 (and_parts d.same (not (is_marked moved d.place)) kept.0).0

    link_of_value : (i : ℕ) (f : Fitting) → slice_get fits i ≡ Some f →
        is_marked moved f.place ≡ false → (t : Bool) → is_tied f.standing ≡ t →
        value (if t then unwrap_or (named_by moved f) f.place else f.place) ≡ value i
    link_of_value i f at unmarked true tied =
        ap (λ (t : Bool). value
        (unwrap_or (if t then first_of f.digits else kept_of moved f.digits) f.place))
        unmarked ∙
        kept_value i f at unmarked
    link_of_value i f at unmarked false loose = ap value (order i f at)

    link_value : (i : ℕ) → is_marked moved i ≡ false → value (link fits moved i) ≡ value i
    link_value i unmarked = split (slice_get fits i) refl
      where
        split : (o : Option Fitting) → slice_get fits i ≡ o →
            value (option_map_or (link_of moved) o i) ≡ value i
        split None none = refl
        split (Some f) at = link_of_value i f at (ap (is_marked moved) (order i f at) ∙ unmarked)
            (is_tied f.standing) refl

    link_shown : (i : ℕ) → shown (link fits moved i) ≡ shown i
    unfolding shown shown_by
    link_shown i = ap (λ (t : Bool). shown_by t (link fits moved i)) (link_mark i) ∙
        split (is_marked moved i) refl
      where
        split : (t : Bool) → is_marked moved i ≡ t → shown_by t (link fits moved i) ≡ shown_by t i
        split true marked = refl
        split false unmarked = ap (λ (x : X). Some x) (link_value i unmarked)

    -- operands with one holder that aren't moved have one value
    pub kept_together : (i j : ℕ) → holder_of fits moved i ≡ holder_of fits moved j →
        is_marked moved i ≡ false → value i ≡ value j
    unfolding shown shown_by
    kept_together i j one unmarked =
        let also : is_marked moved j ≡ false = sym (marked_together i j one) ∙ unmarked in
        let alike : shown i ≡ shown j =
        sym (holder_keeps shown fits moved link_shown i) ∙
        (ap shown one ∙ holder_keeps shown fits moved link_shown j) in
        let first : shown_by (is_marked moved i) i ≡ Some (value i) =
        ap (λ (t : Bool). shown_by t i) unmarked in
        let second : shown_by (is_marked moved j) j ≡ Some (value j) =
        ap (λ (t : Bool). shown_by t j) also in
        let both : Some (value i) ≡ Some (value j) = sym first ∙ (alike ∙ second) in
        let end : value i ≡ value j = cc in end
