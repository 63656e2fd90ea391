-- Rows that get their words where they are needed.
use Rattle.std.proofs.Common.{◌≡◌, ℕ, ◌<◌, ◌≤◌, Bool, true, false, ◌||◌, ◌&&◌, eqb, List, length, get_or, set, Some, refl, sym, ap, ◌∙◌, inl, inr, arith}
use Rattle.std.specs.Prelude.{slice_get, All}
use Rattle.std.proofs.lemmas.Bool.{cases_eq, eq-eqb, ne_eqb}
use Rattle.std.proofs.lemmas.List.Elements.{All-set}
use Rattle.reg_rows.specs.Row.{has}
use Rattle.reg_rows.specs.Table.{at_row, has_at}
use Rattle.reg_rows.proofs.WordLaws.{has_past}
use Rattle.reg_rows.proofs.TableLaws.{has_at-none}
use Rattle.live_rows.proofs.SetLaws.{slice_get-set_same, slice_get-set_other}
use Rattle.reg_conflicts.specs.machine.Sparse.{AreSparse}

pub has_bare : (row : List ℕ) (reg : ℕ) → length row ≡ 0 → has row reg ≡ false
has_bare row reg e = has_past row reg (omega (arith, e))

pub has_at-bare : (rows : List (List ℕ)) → All (λ row. length row ≡ 0) rows → (at reg : ℕ) → has_at rows at reg ≡ false
has_at-bare rows bare at reg = has_at-none rows (λ k d l r. has_bare (get_or rows k d) r (bare k d l)) at reg

pub AreSparse-bare : (width : ℕ) (rows : List (List ℕ)) → All (λ row. length row ≡ 0) rows → AreSparse width rows
AreSparse-bare width rows bare =
    record {
      most = λ k d l. (let e = bare k d l in omega (arith, e));
      fewer = λ k d l less. bare k d l;
    }

-- a row of so many words in another's place
pub AreSparse-set : (width : ℕ) (rows : List (List ℕ)) (at : ℕ) (row : List ℕ) → AreSparse width rows → length row ≡ width → AreSparse width (set rows at row)
AreSparse-set width rows at row sparse long =
    record {
      most = All-set (λ (r : List ℕ). length r ≤ width) rows at row (omega (arith, long)) sparse.most;
      fewer = All-set (λ (r : List ℕ). length r < width → length r ≡ 0) rows at row (λ less. absurd (omega (arith, long, less))) sparse.fewer;
    }

or_out : (o p : Bool) → o ≡ (o || (false && p))
or_out true p = refl
or_out false p = refl

-- a row in another's place, with some registers more
pub has_at-more : (rows : List (List ℕ)) (at : ℕ) (old new : List ℕ) (more : ℕ → Bool) → at < length rows → slice_get rows at ≡ Some old → ((y : ℕ) → has new y ≡ (has old y || more y)) → (x y : ℕ) → has_at (set rows at new) x y ≡ (has_at rows x y || (eqb x at && more y))
has_at-more rows at old new more within here each x y =
    elim (cases_eq x at) [
      | inl e ↦
          let was : has_at rows x y ≡ has old y = ap (λ o. at_row o y) (ap (slice_get rows) e ∙ here) in
          ap (λ k. has_at (set rows at new) k y) e ∙
          (ap (λ o. at_row o y) (slice_get-set_same rows at new within) ∙
          (each y ∙
          (ap (λ b. b || more y) (sym was) ∙ ap (λ b. has_at rows x y || (b && more y)) (sym (eq-eqb x at e)))))
      | inr ne ↦
          ap (λ o. at_row o y) (slice_get-set_other rows at x new ne) ∙
          (or_out (has_at rows x y) (more y) ∙ ap (λ b. has_at rows x y || (b && more y)) (sym (ne_eqb x at ne)))
    ]

or_false : (o b : Bool) → (o || (b && false)) ≡ o
or_false true b = refl
or_false false true = refl
or_false false false = refl

-- a row of no registers in the place of one without words
pub has_at-made : (rows : List (List ℕ)) (at : ℕ) (old new : List ℕ) → at < length rows → slice_get rows at ≡ Some old → length old ≡ 0 → ((y : ℕ) → has new y ≡ false) → (x y : ℕ) → has_at (set rows at new) x y ≡ has_at rows x y
has_at-made rows at old new within here bare none x y =
    has_at-more rows at old new (λ y. false) within here (λ y. none y ∙ sym (ap (λ b. b || false) (has_bare old y bare))) x y ∙ or_false (has_at rows x y) (eqb x at)
