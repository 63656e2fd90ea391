-- What is kept of some things.
use Rattle.std.proofs.Common.{◌≡◌, ℕ, ◌+◌, ◌<◌, Bool, true, false, List, [], ◌∷◌, ◌++◌, filter, length, drop, get_or, if◌then◌else◌, sym, ap, ◌∙◌, append_assoc}
use Rattle.lint_choices.proofs.PushedLaws.{opened}

-- the next is kept
pub kept_next : {X : Type 0} (f : X → Bool) (xs : List X) (i : ℕ) (x : X) (out more whole : List X) →
    i < length xs → x ≡ get_or xs i x → f x ≡ true → more ≡ out ++ x ∷ [] → out ++ filter f (drop i xs) ≡ whole → more ++ filter f (drop (i + 1) xs) ≡ whole
kept_next {X = X} f xs i x out more whole within is kept made h =
    let rest : List X = filter f (drop (i + 1) xs) in
    rw made (append_assoc out (x ∷ []) rest
    ∙ sym (ap (λ (ys : List X). out ++ filter f ys) (opened xs i x within is) ∙ ap (λ (b : Bool). out ++ (if b then x ∷ rest else rest)) kept)
    ∙ h)

-- it isn't
pub left_next : {X : Type 0} (f : X → Bool) (xs : List X) (i : ℕ) (x : X) (out whole : List X) →
    i < length xs → x ≡ get_or xs i x → f x ≡ false → out ++ filter f (drop i xs) ≡ whole → out ++ filter f (drop (i + 1) xs) ≡ whole
left_next {X = X} f xs i x out whole within is left h =
    let rest : List X = filter f (drop (i + 1) xs) in
    sym (ap (λ (ys : List X). out ++ filter f ys) (opened xs i x within is) ∙ ap (λ (b : Bool). out ++ (if b then x ∷ rest else rest)) left)
    ∙ h
