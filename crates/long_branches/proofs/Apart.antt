-- With more long branches all places are further apart.
use Rattle.std.proofs.Common.{◌≡◌, ℕ, zero, suc, ◌+◌, ◌≤◌, min, Bool, true, false, List, length, Option, Some, None, inl, inr, refl, sym, ◌∙◌, ap, arith}
use Rattle.std.specs.Prelude.{slice_get}
use Rattle.std.proofs.lemmas.Bool.{false≢true, cases_lt}
use Rattle.std.proofs.lemmas.Option.{slice_get_past}
use Rattle.long_branches.specs.Branches.{is_long, width, place, Reaches, IsPart}
use Rattle.long_branches.specs.declared.piece.Piece.{Piece}
use Rattle.long_branches.specs.declared.piece.Piece.TheVariants.{Fixed, Branch}

width_grows : (piece : Option Piece) (a b : Bool) → (a ≡ true → b ≡ true) → width piece a ≤ width piece b
width_grows None a b part = omega arith
width_grows (Some (Fixed words)) a b part = omega arith
width_grows (Some (Branch to)) false false part = omega arith
width_grows (Some (Branch to)) false true part = omega arith
width_grows (Some (Branch to)) true false part = absurd (false≢true (part refl))
width_grows (Some (Branch to)) true true part = omega arith

pub apart : (pieces : List Piece) (a b : List Bool) → IsPart a b → (m n : ℕ) → m ≤ n → place pieces a n + place pieces b m ≤ place pieces b n + place pieces a m
apart pieces a b part m zero within =
    let e : m ≡ 0 = omega arith in omega (arith, ap (place pieces a) e, ap (place pieces b) e)
apart pieces a b part m (suc n) within = elim (cases_lt m (suc n)) [
  | inl before ↦
      omega (arith, apart pieces a b part m n (omega arith), width_grows (slice_get pieces n) (is_long a n) (is_long b n) (part n))
  | inr behind ↦
      let e : m ≡ suc n = omega arith in
      omega (arith, ap (place pieces a) e, ap (place pieces b) e)
]

pub ordered : (pieces : List Piece) (longs : List Bool) (m n : ℕ) → m ≤ n → place pieces longs m ≤ place pieces longs n
ordered pieces longs m zero within =
    let e : m ≡ 0 = omega arith in omega (arith, ap (place pieces longs) e)
ordered pieces longs m (suc n) within = elim (cases_lt m (suc n)) [
  | inl before ↦ omega (arith, ordered pieces longs m n (omega arith))
  | inr behind ↦ let e : m ≡ suc n = omega arith in omega (arith, ap (place pieces longs) e)
]

-- what is reached with more long branches is reached with fewer
pub reached : (pieces : List Piece) (a b : List Bool) → IsPart a b → (at to : ℕ) → Reaches (place pieces b at) (place pieces b to) → Reaches (place pieces a at) (place pieces a to)
reached pieces a b part at to near = elim (cases_lt at to) [
  | inl before ↦
      let grown = apart pieces a b part at to (omega arith) in
      let order = ordered pieces a at to (omega arith) in
      (omega (arith, grown, order, near.0, near.1), omega (arith, grown, order, near.0, near.1))
  | inr behind ↦
      let grown = apart pieces a b part to at behind in
      let order = ordered pieces a to at behind in
      (omega (arith, grown, order, near.0, near.1), omega (arith, grown, order, near.0, near.1))
]

-- behind the last piece all places are the end
past : (pieces : List Piece) (longs : List Bool) (n : ℕ) → length pieces ≤ n → place pieces longs n ≡ place pieces longs (length pieces)
past pieces longs zero behind =
    let none : 0 ≡ length pieces = omega (arith, behind) in ap (place pieces longs) none
past pieces longs (suc n) behind = elim (cases_lt (length pieces) (suc n)) [
  | inl before ↦
      let none = slice_get_past pieces n (omega arith) in
      let wide : width (slice_get pieces n) (is_long longs n) ≡ 0 = ap (λ piece. width piece (is_long longs n)) none in
      omega (arith, wide, past pieces longs n (omega arith))
  | inr more ↦ let last : suc n ≡ length pieces = omega (arith, behind, more) in ap (place pieces longs) last
]

pub at_most : (pieces : List Piece) (longs : List Bool) (to : ℕ) → place pieces longs (min to (length pieces)) ≡ place pieces longs to
at_most pieces longs to = elim (cases_lt to (length pieces)) [
  | inl before ↦ let e : min to (length pieces) ≡ to = omega arith in ap (place pieces longs) e
  | inr behind ↦ let e : min to (length pieces) ≡ length pieces = omega arith in ap (place pieces longs) e ∙ sym (past pieces longs to behind)
]
