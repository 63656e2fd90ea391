-- The places of one piece more.
use Rattle.std.proofs.Common.{◌≡◌, ℕ, ◌+◌, ◌<◌, ◌≤◌, Bool, false, List, [], ◌∷◌, ◌++◌, length, get_or, Some, inl, inr, sym, ◌∙◌, ap, arith, add-one}
use Rattle.std.specs.Prelude.{slice_get}
use Rattle.std.proofs.lemmas.Bool.{cases_lt}
use Rattle.std.proofs.lemmas.List.{get_or_push, get_or_append_left}
use Rattle.std.proofs.lemmas.Option.{slice_get-get_or, unwrap_or-slice_get}
use Rattle.long_branches.specs.Branches.{is_long, width, place}
use Rattle.long_branches.specs.declared.piece.Piece.{Piece}

-- where the piece behind one begins
pub next_place : (pieces : List Piece) (longs : List Bool) (at here next wide : ℕ) (default : Piece) → here ≡ place pieces longs at → at < length pieces → next ≡ here + wide → wide ≡ width (Some (get_or pieces at default)) (get_or longs at false) → next ≡ place pieces longs (at + 1)
next_place pieces longs at here next wide default here_is inside next_is wide_is =
    let flag = unwrap_or-slice_get longs at false in
    let is = slice_get-get_or pieces at default inside in
    let as_width : wide ≡ width (slice_get pieces at) (is_long longs at) =
    wide_is ∙ sym (ap (λ p. width p (is_long longs at)) is ∙ ap (width (Some (get_or pieces at default))) flag) in
    next_is ∙ (ap (λ n. n + wide) here_is ∙ (ap (λ n. place pieces longs at + n) as_width ∙ sym (ap (place pieces longs) (add-one at))))

pub places_more : (pieces : List Piece) (longs : List Bool) (places : List ℕ) (at next : ℕ) → length places ≡ at + 1 → ((n : ℕ) → n ≤ at → get_or places n 0 ≡ place pieces longs n) → next ≡ place pieces longs (at + 1) →
    (n : ℕ) → n ≤ at + 1 → get_or (places ++ next ∷ []) n 0 ≡ place pieces longs n
places_more pieces longs places at next size are is n within = elim (cases_lt n (at + 1)) [
  | inl before ↦ get_or_append_left places (next ∷ []) 0 n (omega arith) ∙ are n (omega arith)
  | inr behind ↦
      let last : n ≡ at + 1 = omega arith in
      get_or_push places next 0 n (size ∙ sym last) ∙ (is ∙ ap (place pieces longs) (sym last))
]
