-- So many rounds as there are operands settle what is moved: one more would add nothing.
use Rattle.std.proofs.Common.{◌≡◌, ℕ, zero, suc, ◌+◌, ◌<◌, ◌≤◌, ◌⊎◌, ⊎_elim, inl, inr, Bool, true, false, ◌||◌, cond, List, [], ◌∷◌, length, map, Option, Some, slice_get, refl, sym, ap, ◌∙◌, arith}
use Rattle.std.specs.Option.{option_map, unwrap_or}
use Rattle.std.proofs.lemmas.Bool.{or_left}
use Rattle.std.proofs.lemmas.List.{length-map}
use Rattle.std.proofs.lemmas.Option.{slice_get-map}
use Rattle.reload_moves.specs.declared.fitting.Fitting.{Fitting}
use Rattle.reload_moves.specs.Moved.{is_marked, rounds, moves, is_torn, is_drawn, is_moved_next, round, those_that_move, moved_in}

-- ---- where something stands

pub there : {X : Type 0} (xs : List X) (i : ℕ) → i < length xs → (x : X) × (slice_get xs i ≡ Some x)
there [] i h = absurd (omega (arith, h))
there (x ∷ xs) zero h = (x, refl)
there (x ∷ xs) (suc i) h = there xs i (omega (arith, h))

-- a mark that a test gives
pub mark_of : {X : Type 0} (test : X → Bool) (xs : List X) (i : ℕ) (x : X) →
    slice_get xs i ≡ Some x → is_marked (map test xs) i ≡ test x
mark_of test xs i x at = ap (λ (o : Option Bool). unwrap_or o false)
    (slice_get-map test xs i ∙ ap (λ (o : Option _). option_map test o) at)

pub marked_within : (row : List Bool) (i : ℕ) → is_marked row i ≡ true → i < length row
marked_within [] i m = absurd (let never : ⊥ = cc in never)
marked_within (b ∷ row) zero m = omega arith
marked_within (b ∷ row) (suc i) m = omega (arith, marked_within row i m)

-- ---- rows that grow

abbrev Grows : List Bool → List Bool → Type 0
Grows [] [] = Unit {0}
Grows (a ∷ row) (b ∷ next) = (a ≡ true → b ≡ true) × Grows row next
Grows _ _ = ⊥

-- how many marks there are
abbrev marks_in : List Bool → ℕ
marks_in [] = 0
marks_in (b ∷ row) = cond b 1 0 + marks_in row

marks_within : (row : List Bool) → marks_in row ≤ length row
marks_within [] = omega arith
marks_within (true ∷ row) = omega (arith, marks_within row)
marks_within (false ∷ row) = omega (arith, marks_within row)

same_length : (row next : List Bool) → Grows row next → length row ≡ length next
same_length [] [] g = refl
same_length [] (b ∷ next) g = absurd g
same_length (a ∷ row) [] g = absurd g
same_length (a ∷ row) (b ∷ next) g = omega (arith, same_length row next g.1)

-- it is the same, or has more marks
more_or_same : (row next : List Bool) → Grows row next →
    (row ≡ next) ⊎ (marks_in row < marks_in next)
more_or_same [] [] g = inl refl
more_or_same [] (b ∷ next) g = absurd g
more_or_same (a ∷ row) [] g = absurd g
more_or_same (true ∷ row) (true ∷ next) g = ⊎_elim (λ e. inl (ap (λ (r : List Bool). true ∷ r) e))
    (λ more. inr (omega (arith, more))) (more_or_same row next g.1)
more_or_same (true ∷ row) (false ∷ next) g =
    absurd (let e : false ≡ true = g.0 refl in let never : ⊥ = cc in never)
more_or_same (false ∷ row) (true ∷ next) g = ⊎_elim (λ e. inr (omega (arith, ap marks_in e)))
    (λ more. inr (omega (arith, more))) (more_or_same row next g.1)
more_or_same (false ∷ row) (false ∷ next) g =
    ⊎_elim (λ e. inl (ap (λ (r : List Bool). false ∷ r) e)) (λ more. inr (omega (arith, more)))
    (more_or_same row next g.1)

full_stays : (row next : List Bool) → Grows row next → length row ≤ marks_in row → row ≡ next
full_stays row next g full = ⊎_elim
    (λ e. e)
    (λ more. absurd (omega (arith, more, full, marks_within next, same_length row next g)))
    (more_or_same row next g)

grows_by : (row next : List Bool) → length row ≡ length next →
    ((i : ℕ) → is_marked row i ≡ true → is_marked next i ≡ true) → Grows row next
grows_by [] [] e h = tt
grows_by [] (b ∷ next) e h = absurd (omega (arith, e))
grows_by (a ∷ row) [] e h = absurd (omega (arith, e))
grows_by (a ∷ row) (b ∷ next) e h =
    (h zero, grows_by row next (omega (arith, e)) (λ i m. h (suc i) m))

-- ---- rounds

module _ (step : List Bool → List Bool) (n : ℕ)
    (grow : (row : List Bool) → length row ≡ n → Grows row (step row)) where
  rounds_stay : (more : List Fitting) (row : List Bool) → step row ≡ row →
      rounds step more row ≡ row
  rounds_stay [] row e = refl
  rounds_stay (f ∷ more) row e = ap (rounds step more) e ∙ rounds_stay more row e

  long_on : (row : List Bool) → length row ≡ n → length (step row) ≡ n
  long_on row long = sym (same_length row (step row) (grow row long)) ∙ long

  rounds_settle : (more : List Fitting) (row : List Bool) → length row ≡ n →
      n ≤ marks_in row + length more → step (rounds step more row) ≡ rounds step more row
  rounds_settle [] row long enough =
      sym (full_stays row (step row) (grow row long) (omega (arith, long, enough)))
  rounds_settle (f ∷ more) row long enough = ⊎_elim
      (λ e. let end : rounds step (f ∷ more) row ≡ row = rounds_stay (f ∷ more) row (sym e) in
      ap step end ∙ (sym e ∙ sym end))
      (λ gains. rounds_settle more (step row) (long_on row long) (omega (arith, gains, enough)))
      (more_or_same row (step row) (grow row long))

  rounds_long : (more : List Fitting) (row : List Bool) → length row ≡ n →
      length (rounds step more row) ≡ n
  rounds_long [] row long = long
  rounds_long (f ∷ more) row long = rounds_long more (step row) (long_on row long)

-- ---- what is moved

-- operands stand at their places
abbrev pub InOrder : List Fitting → Type 0
InOrder fits = (i : ℕ) (f : Fitting) → slice_get fits i ≡ Some f → f.place ≡ i

module _ (fits : List Fitting) (order : InOrder fits) where
  round_grows : (row : List Bool) → length row ≡ length fits → Grows row (round fits row)
  round_grows row long = grows_by row (round fits row)
      (long ∙ sym (length-map fits (is_moved_next fits row)))
      (λ i m. let at = there fits i (omega (arith, marked_within row i m, long)) in
      mark_of (is_moved_next fits row) fits i at.0 at.1 ∙
      or_left (is_marked row at.0.place) (is_torn row at.0 || is_drawn fits row at.0.place)
      (ap (is_marked row) (order i at.0 at.1) ∙ m))

  pub moved_settled : round fits (moved_in fits) ≡ moved_in fits
  moved_settled = rounds_settle (round fits) (length fits) round_grows fits (those_that_move fits)
      (length-map fits (λ (f : Fitting). moves f.standing)) (omega arith)
