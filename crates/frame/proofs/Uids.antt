-- Uids that differ still do when a function gets its frame: new instructions have those behind the
-- greatest.
use Rattle.std.proofs.Common.{◌≡◌, ℕ, ◌+◌, ◌≤◌, ◌<◌, Bool, true, false, List, [], ◌∷◌, ◌++◌, length}
use Rattle.std.proofs.Common.{refl, sym, ap, subst, ◌∙◌, append_assoc, arith}
use Rattle.std.specs.Prelude.{◌==◌, if◌then◌else◌}
use Rattle.std.specs.List.{AllByRecursion, IsDistinct}
use Rattle.std.proofs.lemmas.Bool.Decides.{nat_tests}
use Rattle.std.proofs.lemmas.Map.Keys.{IsDistinct-cons, IsDistinct-head, IsDistinct-tail}
use Rattle.rtx_tree.specs.declared.function.Insn.{Insn}
use Rattle.rtx_tree.specs.declared.function.Function.{Function}
use Rattle.rtl_func.specs.Uids.{is_ruled_kind, uids_of}
use Rattle.rtl_chain.specs.End.{return_insn, IsFinished}
use Rattle.law_pass_needs.specs.Reloadable.{UidsDiffer}
use Rattle.law_pass_needs.proofs.Places.{all_joined}
use Rattle.assign.specs.declared.places.Layout.{Layout}
use Rattle.law_frame.specs.Frame.{prologue, epilogue, plain_insns, return_with, leaving, left_uid}
use Rattle.law_frame.specs.Frame.{returns, left_at_returns, next_uid, IsFramed}
use Rattle.law_frame.proofs.Chain.{return_is}
use Rattle.law_frame.proofs.PlainUids.{Apart, Below, all_both, all_split}
use Rattle.law_frame.proofs.PlainUids.{distinct_back, uids_both, own_of, own_differs, own_apart}
use Rattle.law_frame.proofs.PlainUids.{own_below, low_uids, plain_uids, plain_apart, plain_differ}

-- ---- the uids of a chain whose returns are made anew

-- each but a return's is below the free ones
abbrev IsLow : ℕ → Insn → Type 0
IsLow uid i = returns i ≡ false → is_ruled_kind i.kind ≡ true → i.uid < uid

-- another number is none of them
abbrev IsFar : ℕ → Insn → Type 0
IsFar x i = returns i ≡ false → is_ruled_kind i.kind ≡ true → (x == i.uid) ≡ false

low_far : (x uid : ℕ) (insns : List Insn) → uid ≤ x → AllByRecursion (IsLow uid) insns →
    AllByRecursion (IsFar x) insns
low_far x uid [] above low = tt
low_far x uid (i ∷ insns) above low = (
  λ stays ruled. let here : i.uid < uid = low.0 stays ruled in
      grind (arith, nat_tests, here, above),
  low_far x uid insns above low.1,
)

low_more : (n m : ℕ) (insns : List Insn) → n ≤ m → AllByRecursion (IsLow n) insns →
    AllByRecursion (IsLow m) insns
low_more n m [] less low = tt
low_more n m (i ∷ insns) less low = (
  λ stays ruled. let here : i.uid < n = low.0 stays ruled in omega (arith, here, less),
  low_more n m insns less low.1,
)

own_far : (b : Bool) (x : ℕ) (i : Insn) → (b ≡ true → (x == i.uid) ≡ false) → Apart x (own_of b i)
own_far true x i far = (far refl, tt)
own_far false x i far = tt

apart_far : (x : ℕ) (i : Insn) (zs : List ℕ) (b : Bool) → Apart x (own_of b i ++ zs) → b ≡ true →
    (x == i.uid) ≡ false
apart_far x i zs true apart ruled = apart.0
apart_far x i zs false apart ruled = absurd (let never : ⊥ = cc in never)

all_far : (x : ℕ) (insns : List Insn) → Apart x (uids_of insns) → AllByRecursion (IsFar x) insns
all_far x [] apart = tt
all_far x (i ∷ insns) apart =
    let here : Apart x (own_of (is_ruled_kind i.kind) i ++ uids_of insns) =
    subst (Apart x) (uids_both (i ∷ []) insns) apart in (
      λ stays ruled. apart_far x i (uids_of insns) (is_ruled_kind i.kind) here ruled,
      all_far x insns (all_split (λ y. (x == y) ≡ false) (own_of (is_ruled_kind i.kind) i)
          (uids_of insns) here).1,
    )

-- ---- the frame is left

leaving_apart : (layout : Layout) (x uid : ℕ) → x < uid → Apart x (uids_of (leaving layout uid))
leaving_apart layout x uid less =
    let out = epilogue layout in
    subst (Apart x) (sym (uids_both (plain_insns uid out) (return_with (uid + length out) ∷ [])))
    (all_both (λ y. (x == y) ≡ false) (plain_uids uid out) ((uid + length out) ∷ [])
    (plain_apart x uid out less)
    (grind (arith, nat_tests, less), tt))

leaving_differs : (layout : Layout) (uid : ℕ) (zs : List ℕ) → IsDistinct ◌==◌ zs →
    ((x : ℕ) → uid ≤ x → x < left_uid layout uid → Apart x zs) →
    IsDistinct ◌==◌ (uids_of (leaving layout uid) ++ zs)
leaving_differs layout uid zs differ far =
    let out = epilogue layout in
    let last = uid + length out in
    subst (IsDistinct ◌==◌)
    (sym (ap (λ (us : List ℕ). us ++ zs) (uids_both (plain_insns uid out) (return_with last ∷ [])) ∙
    append_assoc (plain_uids uid out) (last ∷ []) zs))
    (plain_differ uid out (last ∷ zs) (IsDistinct-cons ◌==◌ last zs
    (far last (omega arith) (omega arith)) differ)
    (λ x above below. (grind (arith, nat_tests, below), far x above (omega (arith, below)))))

module _ (layout : Layout) (uid : ℕ) (i : Insn) (insns : List Insn) where
  abbrev behind : List Insn
  behind = left_at_returns layout (left_uid layout uid) insns

  abbrev stay : List Insn
  stay = left_at_returns layout uid insns

  apart_by : (x : ℕ) (b : Bool) → returns i ≡ b → x < uid → IsFar x i → Apart x (uids_of behind) →
      Apart x (uids_of stay) →
      Apart x (uids_of (left_at_returns layout uid (i ∷ insns)))
  apart_by x true is less far later kept =
      subst (λ b. Apart x (uids_of (if b then leaving layout uid ++ behind else i ∷ stay))) (sym is)
      (subst (Apart x) (sym (uids_both (leaving layout uid) behind))
      (all_both (λ y. (x == y) ≡ false) (uids_of (leaving layout uid)) (uids_of behind)
      (leaving_apart layout x uid less) later))
  apart_by x false is less far later kept =
      subst (λ b. Apart x (uids_of (if b then leaving layout uid ++ behind else i ∷ stay))) (sym is)
      (subst (Apart x) (sym (uids_both (i ∷ []) stay))
      (all_both (λ y. (x == y) ≡ false) (uids_of (i ∷ [])) (uids_of stay)
      (own_far (is_ruled_kind i.kind) x i (far is)) kept))

  differ_by : (b : Bool) → returns i ≡ b → IsDistinct ◌==◌ (uids_of behind) →
      IsDistinct ◌==◌ (uids_of stay) →
      ((x : ℕ) → uid ≤ x → x < left_uid layout uid → Apart x (uids_of behind)) →
      (returns i ≡ false → is_ruled_kind i.kind ≡ true → Apart i.uid (uids_of stay)) →
      IsDistinct ◌==◌ (uids_of (left_at_returns layout uid (i ∷ insns)))
  differ_by true is later kept far own =
      subst (λ b. IsDistinct ◌==◌ (uids_of (if b then leaving layout uid ++ behind else i ∷ stay)))
      (sym is)
      (subst (IsDistinct ◌==◌) (sym (uids_both (leaving layout uid) behind))
      (leaving_differs layout uid (uids_of behind) later far))
  differ_by false is later kept far own =
      subst (λ b. IsDistinct ◌==◌ (uids_of (if b then leaving layout uid ++ behind else i ∷ stay)))
      (sym is)
      (subst (IsDistinct ◌==◌) (sym (uids_both (i ∷ []) stay))
      (own_differs (is_ruled_kind i.kind) i (uids_of stay) kept (own is)))

module _ (layout : Layout) where
  left_apart : (x uid : ℕ) (insns : List Insn) → x < uid → AllByRecursion (IsFar x) insns →
      Apart x (uids_of (left_at_returns layout uid insns))
  left_apart x uid [] less far = tt
  left_apart x uid (i ∷ insns) less far =
      apart_by layout uid i insns x (returns i) refl less far.0
      (left_apart x (left_uid layout uid) insns (omega (arith, less)) far.1)
      (left_apart x uid insns less far.1)

  left_differ : (uid : ℕ) (insns : List Insn) → AllByRecursion (IsLow uid) insns →
      IsDistinct ◌==◌ (uids_of insns) →
      IsDistinct ◌==◌ (uids_of (left_at_returns layout uid insns))
  left_differ uid [] low differ = differ
  left_differ uid (i ∷ insns) low differ =
      let whole : IsDistinct ◌==◌ (uids_of (i ∷ []) ++ uids_of insns) =
      subst (IsDistinct ◌==◌) (uids_both (i ∷ []) insns) differ in
      let later = distinct_back (uids_of (i ∷ [])) (uids_of insns) whole in
      differ_by layout uid i insns (returns i) refl
      (left_differ (left_uid layout uid) insns (low_more uid (left_uid layout uid) insns
      (omega arith) low.1) later)
      (left_differ uid insns low.1 later)
      (λ x above below. left_apart x (left_uid layout uid) insns below
      (low_far x uid insns above low.1))
      (λ stays ruled. left_apart i.uid uid insns (low.0 stays ruled)
      (all_far i.uid insns (own_apart (is_ruled_kind i.kind) i (uids_of insns) ruled whole)))

-- ---- the finished chain

all_low : (n : ℕ) (insns : List Insn) → Below n (uids_of insns) → AllByRecursion (IsLow n) insns
all_low n [] low = tt
all_low n (i ∷ insns) low =
    let parts = all_split (λ u. u < n) (uids_of (i ∷ [])) (uids_of insns)
    (subst (Below n) (uids_both (i ∷ []) insns) low) in
    (λ stays ruled. own_below (is_ruled_kind i.kind) n i ruled parts.0, all_low n insns parts.1)

differ_more : (n : ℕ) (us : List ℕ) → IsDistinct ◌==◌ us → Below n us →
    IsDistinct ◌==◌ (us ++ n ∷ [])
differ_more n [] differ low = IsDistinct-cons ◌==◌ n [] tt differ
differ_more n (u ∷ us) differ low =
    let here : u < n = low.0 in
    IsDistinct-cons ◌==◌ u (us ++ n ∷ [])
    (all_both (λ y. (u == y) ≡ false) us (n ∷ []) (IsDistinct-head ◌==◌ u us differ)
    (grind (arith, nat_tests, here), tt))
    (differ_more n us (IsDistinct-tail ◌==◌ u us differ) low.1)

never_both : {P : Type 0} → true ≡ false → P
never_both is = absurd (let none : ⊥ = cc in none)

finished_low : (insns chain : List Insn) → IsFinished insns chain →
    AllByRecursion (IsLow (next_uid insns)) chain
finished_low insns _ (IsFinished.returning reached) =
    all_joined (IsLow (next_uid insns)) insns (return_insn insns ∷ [])
    (all_low (next_uid insns) insns (low_uids insns)) (
      λ stays ruled. never_both (sym return_is ∙ stays),
      tt,
    )
finished_low insns _ (IsFinished.staying never) = all_low (next_uid insns) insns (low_uids insns)

finished_differ : (insns chain : List Insn) → IsFinished insns chain →
    IsDistinct ◌==◌ (uids_of insns) →
    IsDistinct ◌==◌ (uids_of chain)
finished_differ insns _ (IsFinished.returning reached) differ =
    subst (IsDistinct ◌==◌) (sym (uids_both insns (return_insn insns ∷ [])))
    (differ_more (next_uid insns) (uids_of insns) differ (low_uids insns))
finished_differ insns _ (IsFinished.staying never) differ = differ

-- uids that differ still do
pub framed_uids : (layout : Layout) (f g : Function) → IsFramed layout f g → UidsDiffer f →
    UidsDiffer g
framed_uids layout f g framed differ =
    let first = next_uid f.insns in
    let body = first + length (prologue layout) in
    let low = finished_low f.insns framed.chain framed.finished in
    let rest = left_at_returns layout body framed.chain in
    subst (λ (h : Function). IsDistinct ◌==◌ (uids_of h.insns)) (sym framed.framed_is)
    (subst (IsDistinct ◌==◌) (sym (uids_both (plain_insns first (prologue layout)) rest))
    (plain_differ first (prologue layout) (uids_of rest)
    (left_differ layout body framed.chain (low_more first body framed.chain (omega arith) low)
    (finished_differ f.insns framed.chain framed.finished differ))
    (λ x above below. left_apart layout x body framed.chain below
    (low_far x first framed.chain above low))))
