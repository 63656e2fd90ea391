-- What some effects change, by what each of them changes.
use Rattle.std.proofs.Common.{◌≡◌, ℕ, zero, suc, ◌+◌, ◌<◌, ◌≤◌, Bool, true, false, ◌||◌, List, [], ◌∷◌, length, drop, get_or, add-one, Option, Some, None, refl, sym, ap, ◌∙◌}
use Rattle.std.specs.Prelude.{slice_get}
use Rattle.std.specs.List.{cons_option, filter_map, list_any}
use Rattle.std.specs.Option.{option_map_or}
use Rattle.std.proofs.lemmas.List.{drop_all}
use Rattle.rtx_tree.specs.declared.tree.Rtx.{Rtx}
use Rattle.reload_operands.specs.Changes.{is_other_memory, any_other_memory}
use Rattle.reload_operands.proofs.Opened.{opened}

-- some number that is kept passes a test
pub kept_any : {X : Type 0} (f : X → Option ℕ) (test : ℕ → Bool) (xs : List X) → list_any test (filter_map f xs) ≡ list_any (λ x. option_map_or test (f x) false) xs
kept_any f test [] = refl
kept_any f test (x ∷ xs) = by_kept (f x) (kept_any f test xs)
  where
    by_kept : (o : Option ℕ) → list_any test (filter_map f xs) ≡ list_any (λ x. option_map_or test (f x) false) xs → list_any test (cons_option o (filter_map f xs)) ≡ (option_map_or test o false || list_any (λ x. option_map_or test (f x) false) xs)
    by_kept None e = e
    by_kept (Some n) e = ap (λ b. test n || b) e

pub kept_any_in : {X : Type 0} (f : X → Option ℕ) (test : ℕ → Bool) (xs ys : List X) (b : Bool) → ys ≡ xs → b ≡ list_any (λ x. option_map_or test (f x) false) ys → b ≡ list_any test (filter_map f xs)
kept_any_in f test xs ys b is e = e ∙ (ap (list_any (λ x. option_map_or test (f x) false)) is ∙ sym (kept_any f test xs))

-- ---- effects, each by the pattern's effect in its place

-- what is left of them from a place on decides of all
pub record Looks (k : ℕ) (ps xs : List Rtx) (i : ℕ) : Type 0 where
  pub goes_on : any_other_memory k (drop i ps) (drop i xs) ≡ any_other_memory k ps xs

pub looks_start : (k : ℕ) (ps xs : List Rtx) → Looks k ps xs 0
looks_start k ps xs = record { goes_on = refl }

at_place : (ps : List Rtx) (i : ℕ) → slice_get (drop i ps) 0 ≡ slice_get ps i
at_place [] zero = refl
at_place [] (suc i) = refl
at_place (p ∷ ps) zero = refl
at_place (p ∷ ps) (suc i) = at_place ps i

behind : (ps : List Rtx) (i : ℕ) → drop 1 (drop i ps) ≡ drop (suc i) ps
behind [] zero = refl
behind [] (suc i) = refl
behind (p ∷ ps) zero = refl
behind (p ∷ ps) (suc i) = behind ps i

behind_place : (ps : List Rtx) (i : ℕ) → drop 1 (drop i ps) ≡ drop (i + 1) ps
behind_place ps i = rw add-one (behind ps i)

looks_at : (k : ℕ) (ps xs : List Rtx) (i : ℕ) (x : Rtx) → i < length xs → x ≡ get_or xs i x →
    any_other_memory k (drop i ps) (drop i xs) ≡ (is_other_memory k (slice_get ps i) x || any_other_memory k (drop (i + 1) ps) (drop (i + 1) xs))
looks_at k ps xs i x within is =
    ap (any_other_memory k (drop i ps)) (opened xs i x within is) ∙
    (ap (λ p. is_other_memory k p x || any_other_memory k (drop 1 (drop i ps)) (drop (i + 1) xs)) (at_place ps i) ∙
    ap (λ qs. is_other_memory k (slice_get ps i) x || any_other_memory k qs (drop (i + 1) xs)) (behind_place ps i))

pub looks_true : (k : ℕ) (ps xs : List Rtx) (i : ℕ) (x : Rtx) → i < length xs → x ≡ get_or xs i x → is_other_memory k (slice_get ps i) x ≡ true → Looks k ps xs i → true ≡ any_other_memory k ps xs
looks_true k ps xs i x within is here goes = sym (ap (λ b. b || any_other_memory k (drop (i + 1) ps) (drop (i + 1) xs)) here) ∙ (sym (looks_at k ps xs i x within is) ∙ goes.goes_on)

pub looks_next : (k : ℕ) (ps xs : List Rtx) (i : ℕ) (x : Rtx) → i < length xs → x ≡ get_or xs i x → is_other_memory k (slice_get ps i) x ≡ false → Looks k ps xs i → Looks k ps xs (i + 1)
looks_next k ps xs i x within is here goes = record {
  goes_on = sym (ap (λ b. b || any_other_memory k (drop (i + 1) ps) (drop (i + 1) xs)) here) ∙ (sym (looks_at k ps xs i x within is) ∙ goes.goes_on);
}

pub looks_end : (k : ℕ) (ps xs : List Rtx) (i : ℕ) → length xs ≤ i → Looks k ps xs i → false ≡ any_other_memory k ps xs
looks_end k ps xs i h goes = sym (ap (any_other_memory k (drop i ps)) (drop_all i xs h)) ∙ goes.goes_on
