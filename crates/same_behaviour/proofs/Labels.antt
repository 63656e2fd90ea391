-- The texts of two labels of a function are the same where their numbers are.
use Rattle.std.proofs.Common.{◌≡◌, ◌≢◌, ℕ, Bool, true, false, ◌==◌, ⊎_elim, List, [], ◌∷◌, ◌++◌, bytes_eq, sym, ap, ◌∙◌, refl, arith}
use Rattle.std.proofs.lemmas.Bool.Decides.{nat_tests}
use Rattle.std.proofs.lemmas.Fmt.{decimal_injective}
use Rattle.std.proofs.lemmas.Slice.Eq.{bytes_eq-Decides}
use Rattle.std.specs.Prelude.{codes}
use Rattle.std.specs.Fmt.{decimal}
use Rattle.rv_line.specs.rv_text.Body.{label_text}
use Rattle.same_behaviour.specs.Ending.{IsUid}
use Rattle.same_behaviour.proofs.Entry.{same_or_not}

same_rest : (front xs ys : List ℕ) → front ++ xs ≡ front ++ ys → xs ≡ ys
same_rest [] xs ys is = is
same_rest (b ∷ front) xs ys is = same_rest front xs ys (let same : front ++ xs ≡ front ++ ys = cc in same)

same_uid : (number u v : ℕ) → IsUid u → IsUid v → label_text number u ≡ label_text number v → u ≡ v
same_uid number u v small small' is =
    let behind_number : decimal number ++ (codes "_" ++ decimal u) ≡ decimal number ++ (codes "_" ++ decimal v) = same_rest (codes ".L") (decimal number ++ (codes "_" ++ decimal u)) (decimal number ++ (codes "_" ++ decimal v)) is in
    let behind_mark : codes "_" ++ decimal u ≡ codes "_" ++ decimal v = same_rest (decimal number) (codes "_" ++ decimal u) (codes "_" ++ decimal v) behind_number in
    decimal_injective u v (omega (arith, small)) (omega (arith, small')) (same_rest (codes "_") (decimal u) (decimal v) behind_mark)

-- the texts of two labels of a function are the same where their numbers are
pub label_test : (number u v : ℕ) → IsUid u → IsUid v → bytes_eq (label_text number u) (label_text number v) ≡ (u == v)
label_test number u v small small' = ⊎_elim
    (λ (same : u ≡ v). let yes : (u == v) ≡ true = grind (arith, nat_tests, same) in
    let texts : bytes_eq (label_text number u) (label_text number v) ≡ true = (bytes_eq-Decides (label_text number u) (label_text number v)).1 (ap (label_text number) same) in texts ∙ sym yes)
    (λ (other : u ≢ v). let no : (u == v) ≡ false = grind (arith, nat_tests, other) in
    tested (bytes_eq (label_text number u) (label_text number v)) (λ yes. other (same_uid number u v small small' ((bytes_eq-Decides (label_text number u) (label_text number v)).0 yes))) ∙ sym no)
    (same_or_not u v)
  where
    tested : (b : Bool) → ¬ (b ≡ true) → b ≡ false
    tested true never = absurd (never refl)
    tested false never = refl
