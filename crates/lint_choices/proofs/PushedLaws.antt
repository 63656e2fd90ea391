-- What is appended for each of some things.
use Rattle.std.proofs.Common.{◌≡◌, ℕ, suc, ◌+◌, ◌<◌, List, [], ◌∷◌, ◌++◌, map, length, drop, get_or, add-one, sym, ap, ◌∙◌, append_assoc}
use Rattle.std.specs.List.{flat_map}
use Rattle.std.proofs.Math.Seq.{drop-cons}
use Rattle.std.proofs.lemmas.List.{append-nil}

-- what stands at a place, and what stands behind it
pub opened : {X : Type 0} (xs : List X) (i : ℕ) (x : X) → i < length xs → x ≡ get_or xs i x → drop i xs ≡ x ∷ drop (i + 1) xs
opened xs i x h e = rw add-one (drop-cons xs i x h ∙ ap (λ y. y ∷ drop (suc i) xs) (sym e))

-- it was appended for one more
pub pushed_next : {X A : Type 0} (f : X → List A) (xs : List X) (i : ℕ) (x : X) (out more whole : List A) →
    i < length xs → x ≡ get_or xs i x → more ≡ out ++ f x → out ++ flat_map f (drop i xs) ≡ whole → more ++ flat_map f (drop (i + 1) xs) ≡ whole
pushed_next f xs i x out more whole within is made h =
    rw made (append_assoc out (f x) (flat_map f (drop (i + 1) xs)) ∙ (sym (ap (λ ys. out ++ flat_map f ys) (opened xs i x within is)) ∙ h))

-- one was appended for one more
pub mapped_next : {X A : Type 0} (f : X → A) (xs : List X) (i : ℕ) (x : X) (out more whole : List A) →
    i < length xs → x ≡ get_or xs i x → more ≡ out ++ f x ∷ [] → out ++ map f (drop i xs) ≡ whole → more ++ map f (drop (i + 1) xs) ≡ whole
mapped_next f xs i x out more whole within is made h =
    rw made (append_assoc out (f x ∷ []) (map f (drop (i + 1) xs)) ∙ (sym (ap (λ ys. out ++ map f ys) (opened xs i x within is)) ∙ h))

pub pushed_ends : {A : Type 0} (out whole : List A) → out ++ [] ≡ whole → out ≡ whole
pushed_ends out whole h = sym (append-nil out) ∙ h

pub nothing_pushed : {A : Type 0} (out : List A) → out ≡ out ++ []
nothing_pushed out = sym (append-nil out)

-- what is pushed behind what was pushed
pub pushed_both : {A : Type 0} (out a b first second : List A) → first ≡ out ++ a → second ≡ first ++ b → second ≡ out ++ (a ++ b)
pushed_both out a b first second one two = rw two (rw one (append_assoc out a b))

pub pushed_three : {A : Type 0} (out a b d first second third : List A) → first ≡ out ++ a → second ≡ first ++ b → third ≡ second ++ d → third ≡ out ++ (a ++ (b ++ d))
pushed_three out a b d first second third one two three =
    rw three (rw two (rw one (append_assoc (out ++ a) b d ∙ append_assoc out a (b ++ d))))
