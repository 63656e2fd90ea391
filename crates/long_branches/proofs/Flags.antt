-- Flags: those that are equal everywhere, one that is set, and how many are set.
use Rattle.std.proofs.Common.{◌≡◌, ℕ, zero, suc, ◌<◌, ◌≢◌, Bool, true, false, List, [], ◌∷◌, ◌++◌, length, get_or, replicate, take, drop, if◌then◌else◌, refl, sym, ◌∙◌, ap, arith}
use Rattle.std.specs.Prelude.{slice_set}
use Rattle.std.proofs.Math.Seq.{take-append_seam}
use Rattle.std.proofs.lemmas.List.{drop_all}
use Rattle.std.proofs.lemmas.List.Sums.{sum_by-set}
use Rattle.std.proofs.lemmas.Option.{unwrap_or-slice_get}
use Rattle.long_branches.specs.Branches.{is_long}
use Rattle.long_branches.specs.machine.Rounds.{count}

pub same_flags : (a b : List Bool) → length a ≡ length b → ((at : ℕ) → is_long a at ≡ is_long b at) → a ≡ b
same_flags [] [] e same = refl
same_flags [] (y ∷ b) e same = absurd (omega (arith, e))
same_flags (x ∷ a) [] e same = absurd (omega (arith, e))
same_flags (x ∷ a) (y ∷ b) e same =
    ap (λ flag. flag ∷ a) (same 0) ∙ ap (λ rest. y ∷ rest) (same_flags a b (omega (arith, e)) (λ at. same (suc at)))

pub none_long : (n at : ℕ) → is_long (replicate n false) at ≡ false
none_long zero at = refl
none_long (suc n) zero = refl
none_long (suc n) (suc at) = none_long n at

pub set_here : (longs : List Bool) (at : ℕ) → at < length longs → is_long (slice_set longs at true) at ≡ true
set_here [] at within = absurd (omega (arith, within))
set_here (x ∷ longs) zero within = refl
set_here (x ∷ longs) (suc at) within = set_here longs at (omega (arith, within))

pub set_elsewhere : (longs : List Bool) (at k : ℕ) → k ≢ at → is_long (slice_set longs at true) k ≡ is_long longs k
set_elsewhere [] at k other = refl
set_elsewhere (x ∷ longs) zero zero other = absurd (other refl)
set_elsewhere (x ∷ longs) zero (suc k) other = refl
set_elsewhere (x ∷ longs) (suc at) zero other = refl
set_elsewhere (x ∷ longs) (suc at) (suc k) other = set_elsewhere longs at k (λ e. other (ap suc e))

pub length_set : (longs : List Bool) (at : ℕ) → length (slice_set longs at true) ≡ length longs
length_set [] at = refl
length_set (x ∷ longs) zero = refl
length_set (x ∷ longs) (suc at) = ap suc (length_set longs at)

-- one more is long
pub count_set : (longs : List Bool) (at : ℕ) → at < length longs → is_long longs at ≡ false → count (slice_set longs at true) ≡ suc (count longs)
count_set longs at within short =
    let one : Bool → ℕ = λ long. if long then 1 else 0 in
    let here : get_or longs at false ≡ false = sym (unwrap_or-slice_get longs at false) ∙ short in
    omega (arith, sum_by-set one longs at true false within, ap one here)

-- a list that was written over as a whole
pub whole : (new old : List Bool) (len : ℕ) → len ≡ length old → length new ≡ length old → take len (new ++ drop (length new) old) ≡ new
whole new old len is same =
    ap (λ rest. take len (new ++ rest)) (drop_all (length new) old (omega (arith, same)))
    ∙ (ap (λ n. take n (new ++ [])) (is ∙ sym same) ∙ take-append_seam new [])
