-- Bytes that lack a mark, and what is cut at the first of a mark.
use Rattle.std.proofs.Common.{◌≡◌, ℕ, Bool, true, not, nat_eq, List, [], ◌∷◌, ◌++◌, refl, arith}
use Rattle.std.specs.List.{list_all}
use Rattle.std.proofs.lemmas.Bool.Decides.{nat_tests}
use Rattle.rv_text.proofs.Numbers.{and_true}

abbrev pub is_other : ℕ → ℕ → Bool
is_other mark byte = not (nat_eq byte mark)

abbrev pub Lacks : ℕ → List ℕ → Type 0
Lacks mark bytes = list_all (is_other mark) bytes ≡ true

no_mark : (mark byte : ℕ) (bytes : List ℕ) → Lacks mark (byte ∷ bytes) → byte ≡ mark → ⊥
no_mark mark byte bytes lacks is = let other = (and_true (is_other mark byte) (list_all (is_other mark) bytes) lacks).0 in let same : nat_eq byte mark ≡ true = grind (arith, nat_tests) in cc

pub cut_at : (mark : ℕ) (left right front back : List ℕ) → Lacks mark left → Lacks mark front → left ++ mark ∷ right ≡ front ++ mark ∷ back → (left ≡ front) × (right ≡ back)
cut_at mark [] right [] back one other is = (refl, cc)
cut_at mark [] right (byte ∷ front) back one other is = absurd (no_mark mark byte front other cc)
cut_at mark (byte ∷ left) right [] back one other is = absurd (no_mark mark byte left one cc)
cut_at mark (byte ∷ left) right (b ∷ front) back one other is =
    let heads : byte ≡ b = cc in
    let tails : left ++ mark ∷ right ≡ front ++ mark ∷ back = cc in
    let further = cut_at mark left right front back (and_true (is_other mark byte) _ one).1 (and_true (is_other mark b) _ other).1 tails in
    (λ i. heads i ∷ further.0 i, further.1)

-- bytes that hold the mark do not lack it
pub has_mark : (mark : ℕ) (left right : List ℕ) → Lacks mark (left ++ mark ∷ right) → ⊥
has_mark mark [] right lacks = no_mark mark mark right lacks refl
has_mark mark (byte ∷ left) right lacks = has_mark mark left right (and_true (is_other mark byte) _ lacks).1
