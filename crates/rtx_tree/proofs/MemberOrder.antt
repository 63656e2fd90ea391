-- The list of a set of row is in increasing order, and the row' bits alone determine it.
use Rattle.std.proofs.Common.{◌≡◌, ℕ, zero, suc, ◌+◌, ◌*◌, ◌<◌, Bool, true, false, cond, List, [], ◌∷◌, ◌++◌, length, get_or, refl, sym, ap, subst, ◌∙◌, inl, inr, arith}
use Rattle.std.specs.List.Sorted.{IsStrictlyIncreasing}
use Rattle.std.proofs.lemmas.Bool.{cases_lt}
use Rattle.std.proofs.lemmas.List.{append-nil, get_or_append_left, length-append}
use Rattle.std.proofs.Math.Seq.{get_or-append_seam}
use Rattle.reg_rows.specs.Row.{has}
use Rattle.reg_rows.proofs.WordLaws.{has_past}
use Rattle.rtx_tree.specs.RegSet.{members_below, members}
use Rattle.rtx_tree.proofs.Increasing.{increasing-append}

-- each number of a list is below n
abbrev AllBelow : List ℕ → ℕ → Type 0
AllBelow xs n = (k : ℕ) → k < length xs → get_or xs k 0 < n

below_more : (xs : List ℕ) (n : ℕ) (b : Bool) → AllBelow xs n → AllBelow (xs ++ cond b (n ∷ []) []) (suc n)
below_more xs n false all k within =
    let same = append-nil xs in
    let len = ap length same in
    let here = ap (λ ys. get_or ys k 0) same in
    let small = all k (omega arith) in
    omega arith
below_more xs n true all k within =
    let len = length-append xs (n ∷ []) in
    elim (cases_lt k (length xs)) [
      | inl less ↦ let here = get_or_append_left xs (n ∷ []) 0 k less in let small = all k less in omega arith
      | inr past ↦ let end : k ≡ length xs = omega arith in let here = ap (λ i. get_or (xs ++ n ∷ []) i 0) end ∙ get_or-append_seam xs n [] 0 in omega arith
    ]

all_below : (row : List ℕ) (n : ℕ) → AllBelow (members_below row n) n
unfolding members_below
all_below row zero k within = absurd (omega arith)
all_below row (suc n) k within = below_more (members_below row n) n (has row n) (all_below row n) k within

up_more : (xs : List ℕ) (n : ℕ) (b : Bool) → AllBelow xs n → IsStrictlyIncreasing xs → IsStrictlyIncreasing (xs ++ cond b (n ∷ []) [])
up_more xs n false all up = let P : List ℕ → Type 0 = λ ys. IsStrictlyIncreasing ys in subst P (sym (append-nil xs)) up
up_more xs n true all up = increasing-append xs n up (λ k end. all k (omega arith))

up : (row : List ℕ) (n : ℕ) → IsStrictlyIncreasing (members_below row n)
unfolding members_below
up row zero k within = absurd (omega arith)
up row (suc n) k within = up_more (members_below row n) n (has row n) (all_below row n) (up row n) k within

pub members-increasing : (row : List ℕ) → IsStrictlyIncreasing (members row)
unfolding members
members-increasing row = up row (64 * length row)

same_below : (xs ys : List ℕ) → ((q : ℕ) → has xs q ≡ has ys q) → (n : ℕ) → members_below xs n ≡ members_below ys n
unfolding members_below
same_below xs ys same zero = refl
same_below xs ys same (suc n) = ap (λ ms. ms ++ cond (has xs n) (n ∷ []) []) (same_below xs ys same n) ∙ ap (λ b. members_below ys n ++ cond b (n ∷ []) []) (same n)

-- above the row there are no more
still : (row : List ℕ) (m : ℕ) → members_below row (m + 64 * length row) ≡ members row
unfolding members members_below
still row zero = let none : 0 + 64 * length row ≡ 64 * length row = omega arith in ap (members_below row) none
still row (suc m) =
    let n = m + 64 * length row in
    let one : suc m + 64 * length row ≡ suc n = omega arith in
    let none = has_past row n (omega arith) in
    ap (members_below row) one ∙ (ap (λ b. members_below row n ++ cond b (n ∷ []) []) none ∙ (append-nil (members_below row n) ∙ still row m))

-- row with the same bits are one set
pub members-same : (xs ys : List ℕ) → ((q : ℕ) → has xs q ≡ has ys q) → members xs ≡ members ys
members-same xs ys same =
    let swap : 64 * length ys + 64 * length xs ≡ 64 * length xs + 64 * length ys = omega arith in
    sym (still xs (64 * length ys)) ∙ (same_below xs ys same (64 * length ys + 64 * length xs) ∙ (ap (members_below ys) swap ∙ still ys (64 * length xs)))

pub members-nil : members [] ≡ []
unfolding members members_below
members-nil = refl
