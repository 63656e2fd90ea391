-- Registers of a run of lines, after one of them is set.
use Rattle.std.proofs.Common.{◌≡◌, ℕ, zero, suc, ◌^◌, ◌≢◌, ◌<◌, arith, false, ◌==◌, length, List, [], ◌∷◌, Option, Some, refl, sym, ap, ◌∙◌}
use Rattle.std.proofs.lemmas.Bool.Decides.{nat_tests}
use Rattle.std.specs.Prelude.{slice_get, slice_set, option_and_then, if◌then◌else◌}
use Rattle.bits64.specs.Words.{low}
use Rattle.bits64.specs.declared.Width.TheVariants.{W64}
use Rattle.rv_line.specs.Step.{register, with_register}

-- a number of 64 bits is its own low bits
pub low_same : (a : ℕ) → a < 2 ^ 64 → low W64 a ≡ a
low_same a fits = omega (arith, fits)

set_there : (regs : List (Option ℕ)) (t : ℕ) (value : Option ℕ) → t < length regs → slice_get (slice_set regs t value) t ≡ Some value
set_there [] t value within = absurd (omega (arith, within))
set_there (x ∷ regs) zero value within = refl
set_there (x ∷ regs) (suc t) value within = set_there regs t value (omega (arith, within))

set_elsewhere : (regs : List (Option ℕ)) (t r : ℕ) (value : Option ℕ) → t ≢ r → slice_get (slice_set regs t value) r ≡ slice_get regs r
set_elsewhere [] t r value other = refl
set_elsewhere (x ∷ regs) zero zero value other = absurd (other refl)
set_elsewhere (x ∷ regs) zero (suc r) value other = refl
set_elsewhere (x ∷ regs) (suc t) zero value other = refl
set_elsewhere (x ∷ regs) (suc t) (suc r) value other = set_elsewhere regs t r value (λ same. other (ap suc same))

not_zero : (t : ℕ) → 0 < t → (t == 0) ≡ false
not_zero t some = grind (arith, nat_tests, some)

register_at : (regs : List (Option ℕ)) (r : ℕ) → 0 < r → register regs r ≡ option_and_then (λ value. value) (slice_get regs r)
register_at regs r some = ap (λ b. if b then Some 0 else option_and_then (λ value. value) (slice_get regs r)) (not_zero r some)

written_at : (regs : List (Option ℕ)) (t value : ℕ) → 0 < t → with_register regs t value ≡ slice_set regs t (Some value)
written_at regs t value some = ap (λ b. if b then regs else slice_set regs t (Some value)) (not_zero t some)

pub register_set : (regs : List (Option ℕ)) (t value : ℕ) → 0 < t → t < length regs → register (with_register regs t value) t ≡ Some value
register_set regs t value some within =
    rw (written_at regs t value some) (register_at (slice_set regs t (Some value)) t some ∙ ap (λ o. option_and_then (λ (value : Option ℕ). value) o) (set_there regs t (Some value) within))

pub register_kept : (regs : List (Option ℕ)) (t r value : ℕ) → 0 < t → 0 < r → t ≢ r → register (with_register regs t value) r ≡ register regs r
register_kept regs t r value some other is = rw (written_at regs t value some)
    (register_at (slice_set regs t (Some value)) r other ∙ ap (λ o. option_and_then (λ (value : Option ℕ). value) o) (set_elsewhere regs t r (Some value) is) ∙ sym (register_at regs r other))

length_kept : (regs : List (Option ℕ)) (t : ℕ) (value : Option ℕ) → length (slice_set regs t value) ≡ length regs
length_kept [] t value = refl
length_kept (x ∷ regs) zero value = refl
length_kept (x ∷ regs) (suc t) value = ap suc (length_kept regs t value)

pub length_written : (regs : List (Option ℕ)) (t value : ℕ) → 0 < t → length (with_register regs t value) ≡ length regs
length_written regs t value some = ap (length {A = Option ℕ}) (written_at regs t value some) ∙ length_kept regs t (Some value)
