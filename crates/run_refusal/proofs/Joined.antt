-- Texts that were printed one behind the other.
use Rattle.std.proofs.Common.{◌≡◌, ◌∙◌, ℕ, List, ◌++◌, ap, append_assoc}

pub joined : (old a b d x y z : List ℕ) → a ≡ old ++ x → b ≡ a ++ y → d ≡ b ++ z → d ≡ old ++ (x ++ (y ++ z))
joined old a b d x y z p q r =
    r ∙ ap (λ (t : List ℕ). t ++ z) (q ∙ ap (λ (t : List ℕ). t ++ y) p) ∙ append_assoc (old ++ x) y z ∙ append_assoc old x (y ++ z)
