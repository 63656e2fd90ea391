-- A name that is put among others.
use Rattle.std.proofs.Common.{◌≡◌, ℕ, Bool, true, false, not, ◌||◌, List, ◌∷◌, refl, sym, ap, ◌∙◌, true≢false}
use Rattle.std.specs.Prelude.{Vec}
use Rattle.std.specs.declared.alloc.Global.{Global}
use Rattle.std.specs.Bool.{MatchBool}
use Rattle.std.specs.List.{list_any}
use Rattle.std.specs.List.Sorted.{IsPermutation}
use Rattle.std.specs.Str.{bytes_eq}
use Rattle.std.proofs.lemmas.List.Sorted.{list_any-IsPermutation}
use Rattle.std.proofs.lemmas.Slice.Eq.{bytes_eq-Decides}

abbrev Text : Type 0
Text = Vec ℕ Global

abbrev has : List Text → List ℕ → Bool
has keys name = list_any (λ text. bytes_eq name text.items) keys

turned : (a b : List ℕ) (x y : Bool) → bytes_eq a b ≡ x → bytes_eq b a ≡ y → x ≡ y
turned a b true true e f = refl
turned a b true false e f = absurd (true≢false (sym ((bytes_eq-Decides b a).1 (sym ((bytes_eq-Decides a b).0 e))) ∙ f))
turned a b false true e f = absurd (true≢false (sym ((bytes_eq-Decides a b).1 (sym ((bytes_eq-Decides b a).0 f))) ∙ e))
turned a b false false e f = refl

or_turned : (a b : Bool) → (a || b) ≡ (b || a)
or_turned true true = refl
or_turned true false = refl
or_turned false true = refl
or_turned false false = refl

put_again : (keys : List Text) (name other : List ℕ) (same : Bool) → bytes_eq name other ≡ same → has keys name ≡ true → has keys other ≡ (has keys other || same)
put_again keys name other true e there = let found : has keys other ≡ true = ap (has keys) (sym ((bytes_eq-Decides name other).0 e)) ∙ there in found ∙ sym (ap (λ b. b || true) found)
put_again keys name other false e there = or_turned false (has keys other)

not_false : (b : Bool) → false ≡ not b → b ≡ true
not_false true e = refl
not_false false e = absurd (true≢false (sym e))

pub put : (added : Bool) (old new : List Text) (key : Text) (name other : List ℕ) → key.items ≡ name → added ≡ not (has old key.items) → MatchBool added (IsPermutation (key ∷ old) new) (new ≡ old) → has new other ≡ (has old other || bytes_eq name other)
put true old new key name other is added keys =
    sym (list_any-IsPermutation (λ text. bytes_eq other text.items) (key ∷ old) new keys)
    ∙ (ap (λ b. b || has old other) (ap (bytes_eq other) is ∙ turned other name _ _ refl refl)
    ∙ or_turned (bytes_eq name other) (has old other))
put false old new key name other is added keys =
    ap (λ ks. has ks other) keys
    ∙ put_again old name other (bytes_eq name other) refl (ap (has old) (sym is) ∙ not_false (has old key.items) added)
