-- A list to which something is appended, and then more.
use Rattle.std.proofs.Common.{◌≡◌, List, [], ◌∷◌, ◌++◌, ap, ◌∙◌, append_assoc}

pub appended_two : {A : Type 0} (old middle new a b : List A) → middle ≡ old ++ a → new ≡ middle ++ b → new ≡ old ++ (a ++ b)
appended_two old middle new a b first second = second ∙ (ap (λ (l : List _). l ++ b) first ∙ append_assoc old a b)

pub appended_each : {A : Type 0} (old middle new : List A) (x y : A) → middle ≡ old ++ x ∷ [] → new ≡ middle ++ y ∷ [] → new ≡ old ++ x ∷ y ∷ []
appended_each old middle new x y first second = appended_two old middle new (x ∷ []) (y ∷ []) first second
