-- The paths at which a register is read, part by part.
use Rattle.std.proofs.Common.{◌≡◌, ℕ, zero, suc, ◌+◌, ◌<◌, ◌≤◌, List, [], ◌∷◌, ◌++◌, map, drop, length, get_or, refl, sym, ap, ◌∙◌, append_assoc, arith}
use Rattle.std.proofs.lemmas.List.{append-nil}
use Rattle.rtx_tree.specs.declared.tree.Rtx.{Rtx}
use Rattle.rtx_tree.specs.declared.tree.Rtx.TheFolds.{fold_out-Rtx}
use Rattle.rtx_tree.specs.Tree.{head_of, kids_of}
use Rattle.insn_fuse.specs.Fused.{behind_indices, here_too, mentioned_step, mentioned_at}

-- ---- what is left of the parts

-- the paths of the parts from an index on
abbrev pub left_from : (Rtx → List (List ℕ)) → ℕ → List Rtx → List (List ℕ)
left_from f n parts = behind_indices n (map f (drop n parts))

pub mentioned_out : (reg : ℕ) (x : Rtx) → mentioned_at reg x ≡ here_too (head_of x).code (head_of x).number reg ++ behind_indices 0 (map (mentioned_at reg) (kids_of x))
unfolding mentioned_at
mentioned_out reg x = fold_out-Rtx (List (List ℕ)) (mentioned_step reg) x

drop_here : (xs : List Rtx) (n : ℕ) (d : Rtx) → n < length xs → drop n xs ≡ get_or xs n d ∷ drop (suc n) xs
drop_here [] n d within = absurd (omega arith)
drop_here (x ∷ xs) zero d within = refl
drop_here (x ∷ xs) (suc n) d within = drop_here xs n d (omega arith)

drop_past : (xs : List Rtx) (n : ℕ) → length xs ≤ n → drop n xs ≡ []
drop_past [] zero past = refl
drop_past [] (suc n) past = refl
drop_past (x ∷ xs) zero past = absurd (omega arith)
drop_past (x ∷ xs) (suc n) past = drop_past xs n (omega arith)

-- one part more
pub one_more : (f : Rtx → List (List ℕ)) (before after whole : List (List ℕ)) (parts : List Rtx) (n : ℕ) (below : List (List ℕ)) (x : Rtx) → n < length parts → x ≡ get_or parts n x → below ≡ f x →
    after ≡ before ++ map (λ path. n ∷ path) below → before ++ left_from f n parts ≡ whole → after ++ left_from f (n + 1) parts ≡ whole
one_more f before after whole parts n below x within there is more left =
    let next : suc n ≡ n + 1 = omega arith in
    let here = drop_here parts n x within ∙ (ap (λ y. y ∷ drop (suc n) parts) (sym there) ∙ ap (λ k. x ∷ drop k parts) next) in
    ap (λ a. a ++ left_from f (n + 1) parts) (more ∙ ap (λ b. before ++ map (λ path. n ∷ path) b) is)
    ∙ (append_assoc before (map (λ path. n ∷ path) (f x)) (left_from f (n + 1) parts)
    ∙ (ap (λ ps. before ++ behind_indices n (map f ps)) (sym here) ∙ left))

-- none is left
pub none_left : (f : Rtx → List (List ℕ)) (paths whole : List (List ℕ)) (parts : List Rtx) (n : ℕ) → length parts ≤ n → paths ++ left_from f n parts ≡ whole → paths ≡ whole
none_left f paths whole parts n past left =
    sym (append-nil paths) ∙ (ap (λ ps. paths ++ behind_indices n (map f ps)) (sym (drop_past parts n past)) ∙ left)

pub set_is : (a b : List (List ℕ)) → ([] ++ map (λ (path : List ℕ). 0 ∷ path) a) ++ map (λ (path : List ℕ). 1 ∷ path) b ≡ behind_indices 0 (a ∷ b ∷ [])
set_is a b = ap (λ rest. map (λ (path : List ℕ). 0 ∷ path) a ++ rest) (sym (append-nil (map (λ (path : List ℕ). 1 ∷ path) b)))

pub ruleset the_mentions = (mentioned_out, one_more, none_left)

pub ruleset the_reads = (one_more, none_left)
