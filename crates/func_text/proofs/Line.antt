-- A line, from its parts.
use Rattle.std.proofs.Common.{◌≡◌, ℕ, List, [], ◌∷◌, ◌++◌, ap, ◌∙◌, append_assoc}
use Rattle.std.specs.Fmt.{decimal}
use Rattle.form_needs.specs.Needs.{name_at}
use Rattle.func_text.specs.Recog.{line_of}

-- what stands behind a part and its blank
pub behind : (front part rest : List ℕ) → (front ++ (part ++ 32 ∷ [])) ++ rest ≡ front ++ (part ++ (32 ∷ rest))
behind front part rest = append_assoc front (part ++ 32 ∷ []) rest ∙ ap (λ (t : List ℕ). front ++ t) (append_assoc part (32 ∷ []) rest)

parts_made : (old a b c d f n x y : List ℕ) → a ≡ old ++ (f ++ 32 ∷ []) → b ≡ a ++ (n ++ 32 ∷ []) → c ≡ b ++ (x ++ 32 ∷ []) → d ≡ c ++ (y ++ 10 ∷ []) → d ≡ old ++ (f ++ (32 ∷ (n ++ (32 ∷ (x ++ (32 ∷ (y ++ 10 ∷ [])))))))
parts_made old a b c d f n x y p q r s =
    s ∙ ap (λ (t : List ℕ). t ++ (y ++ 10 ∷ [])) r ∙ behind b x (y ++ 10 ∷ []) ∙
    ap (λ (t : List ℕ). t ++ (x ++ (32 ∷ (y ++ 10 ∷ [])))) q ∙ behind a n (x ++ (32 ∷ (y ++ 10 ∷ []))) ∙
    ap (λ (t : List ℕ). t ++ (n ++ (32 ∷ (x ++ (32 ∷ (y ++ 10 ∷ [])))))) p ∙ behind old f (n ++ (32 ∷ (x ++ (32 ∷ (y ++ 10 ∷ [])))))

pub line_made : (names : List (List ℕ)) (function : List ℕ) (uid form alternative : ℕ) (old a b c d : List ℕ) → a ≡ old ++ (function ++ 32 ∷ []) → b ≡ a ++ (decimal uid ++ 32 ∷ []) → c ≡ b ++ (name_at names form ++ 32 ∷ []) → d ≡ c ++ (decimal alternative ++ 10 ∷ []) →
    d ≡ old ++ line_of names function uid form alternative
line_made names function uid form alternative old a b c d = parts_made old a b c d function (decimal uid) (name_at names form) (decimal alternative)
