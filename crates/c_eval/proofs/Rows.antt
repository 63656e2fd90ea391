-- The readings of the parts of a head stand at the end of an array of three.
use Rattle.std.proofs.Common.{◌≡◌, ℕ, ◌+◌, ◌-◌, ◌<◌, ◌≤◌, ◌⊎◌, inl, inr, List, ◌∷◌, length, take, drop, get_or, set, sym, ap, subst, ◌∙◌, arith, length-drop}
use Rattle.std.proofs.lemmas.List.{drop-set, take_all}
use Rattle.c_cond.specs.c_words.declared.head.CondHead.{CondHead}
use Rattle.c_cond.specs.Tree.{size_of}
use Rattle.c_eval.specs.declared.reading.Reading.{Reading}
use Rattle.c_eval.specs.declared.walk.Part.{Part}
use Rattle.c_eval.specs.machine.Places.{IsPart, EndsPart}
use Rattle.c_eval.proofs.Gathered.{Gathers, gathers_more, gathers_ends, gathers_all}

-- with one part more
pub gathers_on : (read : CondHead → List Reading → Reading) (heads : List CondHead) (at size start first : ℕ) (readings : List Reading) (part : Part) → at < length heads → first ≤ 3 → size ≤ 3 → 3 < first + size → length readings ≡ 3 → Gathers read heads at size start (3 - first) (drop first readings) → IsPart read heads part → part.end ≡ start → Gathers read heads at size part.start (3 - (first - 1)) (drop (first - 1) (set readings (first - 1) part.reading))
gathers_on read heads at size start first readings part within room small more all gathers is here =
    subst (λ (n : ℕ). Gathers read heads at size part.start n (drop (first - 1) (set readings (first - 1) part.reading))) (sym count)
    (subst (Gathers read heads at size part.start (3 - first + 1)) (sym parts)
    (gathers_more read heads at size (3 - first) (drop first readings) part within (omega arith)
    (subst (λ (s : ℕ). Gathers read heads at size s (3 - first) (drop first readings)) (sym here) gathers) is))
  where
    count : 3 - (first - 1) ≡ 3 - first + 1
    count = omega arith

    next : first - 1 + 1 ≡ first
    next = omega arith

    parts : drop (first - 1) (set readings (first - 1) part.reading) ≡ part.reading ∷ drop first readings
    parts = drop-set readings (first - 1) part.reading (omega (arith, all)) ∙ ap (λ (k : ℕ). part.reading ∷ drop k readings) next

-- another part ends where the parts start
pub part_ends : (read : CondHead → List Reading → Reading) (heads : List CondHead) (at size start first : ℕ) (readings : List Reading) (h : CondHead) → at < length heads → h ≡ get_or heads at h → size ≡ size_of h → 0 < start → first ≤ 3 → 3 < first + size → Gathers read heads at size start (3 - first) (drop first readings) → EndsPart heads at start
part_ends read heads at size start first readings h within is same some room more gathers =
    gathers_ends read heads at start (3 - first) (drop first readings) h within is some (omega (arith, same))
    (subst (λ (n : ℕ). Gathers read heads at n start (3 - first) (drop first readings)) same gathers)

-- where no part is left, the head is read with all
pub gathered : (read : CondHead → List Reading → Reading) (heads : List CondHead) (at size start first : ℕ) (readings : List Reading) (h : CondHead) (reading : Reading) → at < length heads → h ≡ get_or heads at h → size ≡ size_of h → first ≤ 3 → length readings ≡ 3 → (first + size ≤ 3) ⊎ (start ≤ 0) → Gathers read heads at size start (3 - first) (drop first readings) → reading ≡ read h (take (3 - first) (drop first readings)) → IsPart read heads (record { start = start; end = at + 1; reading = reading })
gathered read heads at size start first readings h reading within is same room whole over gathers reads =
    subst (λ (r : Reading). IsPart read heads (record { start = start; end = at + 1; reading = r })) (sym (reads ∙ ap (read h) (take_all (3 - first) (drop first readings) (omega (arith, length-drop first readings, whole)))))
    (gathers_all read heads at start (3 - first) (drop first readings) h within is (either over)
    (subst (λ (n : ℕ). Gathers read heads at n start (3 - first) (drop first readings)) same gathers))
  where
    either : (first + size ≤ 3) ⊎ (start ≤ 0) → (3 - first ≡ size_of h) ⊎ (start ≡ 0)
    either (inl full) = inl (omega (arith, same, gathers.few))
    either (inr none) = inr (omega arith)
