-- The uids of a chain, and of plain instructions that have free ones.
use Rattle.std.proofs.Common.{◌≡◌, ℕ, ◌+◌, ◌≤◌, ◌<◌, Bool, true, false, List, [], ◌∷◌, ◌++◌, map}
use Rattle.std.proofs.Common.{length, refl, ap, ◌∙◌, arith}
use Rattle.std.specs.Prelude.{filter, ◌==◌, if◌then◌else◌}
use Rattle.std.specs.List.{AllByRecursion, IsDistinct}
use Rattle.std.proofs.lemmas.Bool.Decides.{nat_tests}
use Rattle.std.proofs.lemmas.Map.Keys.{IsDistinct-cons, IsDistinct-head, IsDistinct-tail}
use Rattle.std.proofs.lemmas.List.{map-append}
use Rattle.std.proofs.lemmas.List.Elements.{filter-append}
use Rattle.rtx_tree.specs.declared.tree.Rtx.{Rtx}
use Rattle.rtx_tree.specs.declared.function.Insn.{Insn}
use Rattle.rtl_func.specs.Uids.{is_ruled, is_ruled_kind, uids_of}
use Rattle.law_frame.specs.Frame.{plain_insns, next_uid}

-- ---- numbers that differ from one, or are below it

abbrev pub Apart : ℕ → List ℕ → Type 0
Apart x ys = AllByRecursion (λ y. (x == y) ≡ false) ys

abbrev pub Below : ℕ → List ℕ → Type 0
Below n us = AllByRecursion (λ u. u < n) us

pub all_both : (P : ℕ → Type 0) (xs ys : List ℕ) → AllByRecursion P xs → AllByRecursion P ys →
    AllByRecursion P (xs ++ ys)
all_both P [] ys a b = b
all_both P (x ∷ xs) ys a b = (a.0, all_both P xs ys a.1 b)

pub all_split : (P : ℕ → Type 0) (xs ys : List ℕ) → AllByRecursion P (xs ++ ys) →
    AllByRecursion P xs × AllByRecursion P ys
all_split P [] ys a = (tt, a)
all_split P (x ∷ xs) ys a = let rest = all_split P xs ys a.1 in ((a.0, rest.0), rest.1)

pub below_apart : (x n : ℕ) (us : List ℕ) → n ≤ x → Below n us → Apart x us
below_apart x n [] less low = tt
below_apart x n (u ∷ us) less low = (
  let here : u < n = low.0 in grind (arith, nat_tests, here, less),
  below_apart x n us less low.1,
)

pub below_more : (n m : ℕ) (us : List ℕ) → n ≤ m → Below n us → Below m us
below_more n m [] less low = tt
below_more n m (u ∷ us) less low = (
  let here : u < n = low.0 in omega (arith, here, less),
  below_more n m us less low.1,
)

pub distinct_back : (xs ys : List ℕ) → IsDistinct ◌==◌ (xs ++ ys) → IsDistinct ◌==◌ ys
distinct_back [] ys differ = differ
distinct_back (x ∷ xs) ys differ = distinct_back xs ys (IsDistinct-tail ◌==◌ x (xs ++ ys) differ)

-- ---- the uids of a chain

pub uids_both : (xs ys : List Insn) → uids_of (xs ++ ys) ≡ uids_of xs ++ uids_of ys
uids_both xs ys =
    ap (map (λ (i : Insn). i.uid)) (filter-append is_ruled xs ys) ∙
    map-append (λ (i : Insn). i.uid) (filter is_ruled xs) (filter is_ruled ys)

-- that of an instruction, where it counts
abbrev pub own_of : Bool → Insn → List ℕ
own_of b i = map (λ (j : Insn). j.uid) (if b then i ∷ [] else [])

-- an instruction before some from which its uid differs
pub own_differs : (b : Bool) (i : Insn) (zs : List ℕ) → IsDistinct ◌==◌ zs →
    (b ≡ true → Apart i.uid zs) →
    IsDistinct ◌==◌ (own_of b i ++ zs)
own_differs true i zs differ far = IsDistinct-cons ◌==◌ i.uid zs (far refl) differ
own_differs false i zs differ far = differ

pub own_apart : (b : Bool) (i : Insn) (zs : List ℕ) → b ≡ true →
    IsDistinct ◌==◌ (own_of b i ++ zs) → Apart i.uid zs
own_apart true i zs ruled differ = IsDistinct-head ◌==◌ i.uid zs differ
own_apart false i zs ruled differ = absurd (let never : ⊥ = cc in never)

pub own_below : (b : Bool) (n : ℕ) (i : Insn) → b ≡ true → Below n (own_of b i) → i.uid < n
own_below true n i ruled low = low.0
own_below false n i ruled low = absurd (let never : ⊥ = cc in never)

-- they are below the next one
pub low_uids : (insns : List Insn) → Below (next_uid insns) (uids_of insns)
low_uids [] = tt
low_uids (i ∷ insns) =
    let rest : Below (next_uid (i ∷ insns)) (uids_of insns) =
    below_more (next_uid insns) (next_uid (i ∷ insns)) (uids_of insns) (grind arith)
    (low_uids insns) in
    by (is_ruled_kind i.kind) rest
  where
    by : (b : Bool) → Below (next_uid (i ∷ insns)) (uids_of insns) →
        Below (next_uid (i ∷ insns)) (map (λ (j : Insn). j.uid)
        (if b then i ∷ filter is_ruled insns else filter is_ruled insns))
    by true rest = (grind arith, rest)
    by false rest = rest

-- ---- those of plain instructions

abbrev pub plain_uids : ℕ → List Rtx → List ℕ
plain_uids uid xs = uids_of (plain_insns uid xs)

pub plain_apart : (x uid : ℕ) (xs : List Rtx) → x < uid → Apart x (plain_uids uid xs)
plain_apart x uid [] less = tt
plain_apart x uid (y ∷ ys) less = (
  grind (arith, nat_tests, less),
  plain_apart x (uid + 1) ys (omega (arith, less)),
)

-- plain instructions before some from which their uids differ
pub plain_differ : (uid : ℕ) (xs : List Rtx) (zs : List ℕ) → IsDistinct ◌==◌ zs →
    ((x : ℕ) → uid ≤ x → x < uid + length xs → Apart x zs) →
    IsDistinct ◌==◌ (plain_uids uid xs ++ zs)
plain_differ uid [] zs differ far = differ
plain_differ uid (y ∷ ys) zs differ far =
    IsDistinct-cons ◌==◌ uid (plain_uids (uid + 1) ys ++ zs)
    (all_both (λ z. (uid == z) ≡ false) (plain_uids (uid + 1) ys) zs
    (plain_apart uid (uid + 1) ys (omega arith))
    (far uid (omega arith) (omega arith)))
    (plain_differ (uid + 1) ys zs differ (λ x above below. far x (omega (arith, above))
    (omega (arith, below))))
