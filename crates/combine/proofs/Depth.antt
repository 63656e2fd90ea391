-- How deep a tree is, part by part.
use Rattle.std.proofs.Common.{◌≡◌, ℕ, zero, suc, ◌+◌, ◌-◌, ◌<◌, ◌≤◌, ◌&&◌, Bool, true, false, List, [], ◌∷◌, map, drop, length, get_or, max, nat_le, sym, ap, ◌∙◌, arith}
use Rattle.std.proofs.lemmas.Bool.Decides.{nat_tests}
use Rattle.std.proofs.Math.Seq.{drop-cons}
use Rattle.rtx_tree.specs.declared.tree.Rtx.{Rtx}
use Rattle.rtx_tree.specs.declared.tree.Rtx.TheFolds.{fold_out-Rtx}
use Rattle.rtx_tree.specs.Tree.{kids_of}
use Rattle.combine.specs.Combine.{deepest, levels}

levels_out : (x : Rtx) → levels x ≡ suc (deepest (map levels (kids_of x)))
unfolding levels
levels_out x = fold_out-Rtx ℕ (λ x. suc (deepest x.kids)) x

-- the parts from a place on are so deep at most
abbrev pub are_within : List Rtx → ℕ → ℕ → Bool
are_within kids n most = nat_le (deepest (map levels (drop n kids))) most

below_none : (n : ℕ) → false ≡ nat_le (suc n) 0
below_none n = grind (arith, nat_tests)

pub none_within : (x : Rtx) (most : ℕ) → most ≡ 0 → false ≡ nat_le (levels x) most
none_within x most is = below_none (deepest (map levels (kids_of x))) ∙ (ap (λ n. nat_le n 0) (sym (levels_out x)) ∙ ap (nat_le (levels x)) (sym is))

one_less : (d most : ℕ) → 0 < most → nat_le d (most - 1) ≡ nat_le (suc d) most
one_less d most some = grind (arith, nat_tests, some)

pub whole_within : (x : Rtx) (kids : List Rtx) (most : ℕ) → kids ≡ kids_of x → 0 < most → are_within kids 0 (most - 1) ≡ nat_le (levels x) most
whole_within x kids most is some =
    ap (λ ks. nat_le (deepest (map levels ks)) (most - 1)) is
    ∙ (one_less (deepest (map levels (kids_of x))) most some ∙ ap (λ n. nat_le n most) (sym (levels_out x)))

max_within : (a b m : ℕ) → nat_le (max a b) m ≡ (nat_le a m && nat_le b m)
max_within a b m = grind (arith, nat_tests)

part_within : (kids : List Rtx) (n m : ℕ) (kid : Rtx) → n < length kids → are_within kids n m ≡ (nat_le (levels (get_or kids n kid)) m && are_within kids (suc n) m)
part_within kids n m kid within =
    ap (λ ks. nat_le (deepest (map levels ks)) m) (drop-cons kids n kid within)
    ∙ max_within (levels (get_or kids n kid)) (deepest (map levels (drop (suc n) kids))) m

-- a part that is so deep at most
pub rest_within : (kids : List Rtx) (n m : ℕ) (kid : Rtx) → n < length kids → kid ≡ get_or kids n kid → nat_le (levels kid) m ≡ true → are_within kids (n + 1) m ≡ are_within kids n m
rest_within kids n m kid within is low =
    let next : n + 1 ≡ suc n = omega arith in
    ap (λ k. are_within kids k m) next
    ∙ sym (part_within kids n m kid within ∙ ap (λ t. t && are_within kids (suc n) m) (ap (λ (y : Rtx). nat_le (levels y) m) (sym is) ∙ low))

-- a part that is deeper
pub not_within : (kids : List Rtx) (n m : ℕ) (kid : Rtx) → n < length kids → kid ≡ get_or kids n kid → nat_le (levels kid) m ≡ false → are_within kids n m ≡ false
not_within kids n m kid within is deep =
    part_within kids n m kid within ∙ ap (λ t. t && are_within kids (suc n) m) (ap (λ (y : Rtx). nat_le (levels y) m) (sym is) ∙ deep)

-- no part is left
pub all_within : (kids : List Rtx) (n m : ℕ) → length kids ≤ n → are_within kids n m ≡ true
all_within [] zero m past = grind (arith, nat_tests)
all_within [] (suc n) m past = grind (arith, nat_tests)
all_within (x ∷ kids) zero m past = absurd (omega arith)
all_within (x ∷ kids) (suc n) m past = all_within kids n m (omega arith)
