-- The paths at which a register is read exist.
use Rattle.std.proofs.Common.{◌≡◌, ℕ, suc, ◌+◌, Bool, true, false, List, [], ◌∷◌, ◌++◌, map, length, Option, Some, None, refl, sym, ap, subst, ◌∙◌, arith, if◌then◌else◌}
use Rattle.std.specs.Prelude.{IsSome, IfSome, option_and_then, slice_get}
use Rattle.std.specs.Option.{MatchOption}
use Rattle.std.proofs.lemmas.List.{length-append}
use Rattle.std.specs.List.{AllByRecursion}
use Rattle.rtx_tree.specs.declared.code.Code.{Code}
use Rattle.rtx_tree.specs.declared.code.Code.TheVariants.{Mem, Set, Clobber, Parallel}
use Rattle.rtx_tree.specs.declared.tree.Rtx.{Rtx, roll-Rtx, out-roll-Rtx}
use Rattle.rtx_tree.specs.declared.tree.Rtx.TheFolds.{ind-Rtx}
use Rattle.rtx_tree.specs.declared.tree.Rtx.TheOpen.{Rtx-F}
use Rattle.rtx_tree.specs.Tree.{head_of, kids_of, part_at, is_reg_numbered}
use Rattle.insn_fuse.specs.Fused.{behind_indices, here_too, mentioned_at, address_by, address_reads, effect_reads_by, effect_reads, reads_by, reads_at}
use Rattle.insn_fuse.proofs.Paths.{mentioned_out}

-- a part stands at each path
abbrev AllStand : Rtx → List (List ℕ) → Type 0
AllStand x paths = AllByRecursion (λ path. IsSome (part_at x path)) paths

-- and so for each of some trees
abbrev PairsStand : List Rtx → List (List (List ℕ)) → Type 0
PairsStand [] [] = Unit {0}
PairsStand (kid ∷ kids) (paths ∷ lists) = AllStand kid paths × PairsStand kids lists
PairsStand _ _ = ⊥

joined : (x : Rtx) (xs ys : List (List ℕ)) → AllStand x xs → AllStand x ys → AllStand x (xs ++ ys)
joined x [] ys all more = more
joined x (path ∷ xs) ys all more = (all.0, joined x xs ys all.1 more)

below : (x kid : Rtx) (n : ℕ) (paths : List (List ℕ)) → slice_get (kids_of x) n ≡ Some kid → AllStand kid paths → AllStand x (map (λ path. n ∷ path) paths)
below x kid n [] here all = tt
below x kid n (path ∷ paths) here all = (subst (λ o. IsSome (option_and_then (λ kid. part_at kid path) o)) (sym here) all.0, below x kid n paths here all.1)

all_behind : (x : Rtx) (n : ℕ) (kids : List Rtx) (lists : List (List (List ℕ))) → ((k : ℕ) → slice_get (kids_of x) (n + k) ≡ slice_get kids k) → PairsStand kids lists → AllStand x (behind_indices n lists)
all_behind x n [] [] same pairs = tt
all_behind x n [] (paths ∷ lists) same pairs = absurd pairs
all_behind x n (kid ∷ kids) [] same pairs = absurd pairs
all_behind x n (kid ∷ kids) (paths ∷ lists) same pairs =
    let first : n ≡ n + 0 = omega arith in
    joined x (map (λ path. n ∷ path) paths) (behind_indices (n + 1) lists)
    (below x kid n paths (ap (slice_get (kids_of x)) first ∙ same 0) pairs.0)
    (all_behind x (n + 1) kids lists (λ k. let next : n + 1 + k ≡ n + suc k = omega arith in ap (slice_get (kids_of x)) next ∙ same (suc k)) pairs.1)

from_first : (x : Rtx) (kids : List Rtx) → kids_of x ≡ kids → (k : ℕ) → slice_get (kids_of x) (0 + k) ≡ slice_get kids k
from_first x kids is k = let same : 0 + k ≡ k = omega arith in ap (slice_get (kids_of x)) same ∙ ap (λ ks. slice_get ks k) is

pairs_of : (f : Rtx → List (List ℕ)) (kids : List Rtx) → AllByRecursion (λ kid. AllStand kid (f kid)) kids → PairsStand kids (map f kids)
pairs_of f [] all = tt
pairs_of f (kid ∷ kids) all = (all.0, pairs_of f kids all.1)

-- ---- trees

all_of : (P : Rtx → Type 0) (ys : List ((x : Rtx) × P x)) → AllByRecursion P (map (λ (y : (x : Rtx) × P x). y.0) ys)
all_of P [] = tt
all_of P (y ∷ ys) = (y.1, all_of P ys)

-- what holds of each tree whose parts it holds of
pub tree_induction : (P : Rtx → Type 0) → ((x : Rtx) → AllByRecursion P (kids_of x) → P x) → (x : Rtx) → P x
tree_induction P step = ind-Rtx P (λ x y is.
    step (roll-Rtx x) (subst (λ (o : Rtx-F Rtx). AllByRecursion P o.kids) (sym (out-roll-Rtx x)) (subst (λ (z : Rtx-F Rtx). AllByRecursion P z.kids) is (all_of P y.kids))))

module _ (reg : ℕ) where
  abbrev Mentioned : Rtx → Type 0
  Mentioned x = AllStand x (mentioned_at reg x)

  here : (x : Rtx) (b : Bool) → AllStand x (if b then [] ∷ [] else [])
  here x true = (refl, tt)
  here x false = tt

  mentioned : (x : Rtx) → Mentioned x
  mentioned = tree_induction Mentioned (λ x all. subst (AllStand x) (sym (mentioned_out reg x))
      (joined x (here_too (head_of x).code (head_of x).number reg) (behind_indices 0 (map (mentioned_at reg) (kids_of x)))
      (here x (is_reg_numbered (head_of x).code (head_of x).number reg))
      (all_behind x 0 (kids_of x) (map (mentioned_at reg) (kids_of x)) (from_first x (kids_of x) refl) (pairs_of (mentioned_at reg) (kids_of x) all))))

  address : (c : Code) (x : Rtx) → AllStand x (address_by reg c x)
  address Mem x = mentioned x
  address _ x = tt

  -- ---- effects

  effect_by : (c : Code) (kids : List Rtx) (x : Rtx) → kids_of x ≡ kids → AllStand x (effect_reads_by reg c kids x)
  effect_by Set [] x is = mentioned x
  effect_by Set (a ∷ []) x is = mentioned x
  effect_by Set (place ∷ source ∷ []) x is =
      all_behind x 0 (place ∷ source ∷ []) (address_reads reg place ∷ mentioned_at reg source ∷ []) (from_first x (place ∷ source ∷ []) is) (address (head_of place).code place, (mentioned source, tt))
  effect_by Set (a ∷ b ∷ c ∷ kids) x is = mentioned x
  effect_by Clobber kids x is = tt
  effect_by _ kids x is = mentioned x

  effect : (x : Rtx) → AllStand x (effect_reads reg x)
  effect x = effect_by (head_of x).code (kids_of x) x refl

  all_effects : (xs : List Rtx) → AllByRecursion (λ x. AllStand x (effect_reads reg x)) xs
  all_effects [] = tt
  all_effects (x ∷ xs) = (effect x, all_effects xs)

  reads : (c : Code) (x : Rtx) → AllStand x (reads_by reg c (kids_of x) x)
  reads Parallel x = all_behind x 0 (kids_of x) (map (effect_reads reg) (kids_of x)) (from_first x (kids_of x) refl) (pairs_of (effect_reads reg) (kids_of x) (all_effects (kids_of x)))
  reads _ x = effect x

pub stands : (reg : ℕ) (x : Rtx) (path : List ℕ) → reads_at reg x ≡ path ∷ [] → IsSome (part_at x path)
stands reg x path is = let all : AllStand x (path ∷ []) = subst (AllStand x) is (reads reg (head_of x).code x) in all.0

-- the one that was taken out
pub popped : (reg : ℕ) (x : Rtx) (paths left : List (List ℕ)) (o : Option (List ℕ)) → paths ≡ reads_at reg x → length paths ≡ 1 →
    MatchOption o ((paths ≡ []) × (left ≡ [])) (λ last. paths ≡ left ++ last ∷ []) → IfSome o (λ path. IsSome (part_at x path))
popped reg x paths left None are one is = tt
popped reg x paths [] (Some last) are one is = stands reg x last (sym are ∙ is)
popped reg x paths (path ∷ left) (Some last) are one is =
    let long = length-append left (last ∷ []) in
    let all : length paths ≡ suc (length (left ++ last ∷ [])) = ap length is in
    absurd (omega (arith, long, all, one))
