-- The uids of a function that keeps the rules: they differ, and each has 32 bits.
use Rattle.std.proofs.Common.{◌≡◌, ℕ, zero, suc, ◌≤◌, Bool, true, false, not, ◌&&◌, ◌==◌, if◌then◌else◌, List, [], ◌∷◌, map, refl, sym, ap, subst, ◌∙◌, inl, inr}
use Rattle.std.specs.Prelude.{nat_le}
use Rattle.std.specs.List.{AllByRecursion, IsDistinct}
use Rattle.std.proofs.lemmas.Bool.{cases_Bool, true≢false, false≢true, false_from_ne_true, and_parts, or_parts, or_left, or_right, eq-eqb, eqb-true, leb-true}
use Rattle.rtx_tree.specs.declared.function.Insn.{Insn}
use Rattle.rtx_tree.specs.declared.function.Function.{Function}
use Rattle.rtl_func.specs.Paths.{has_place}
use Rattle.rtl_func.specs.Faults.{fault}
use Rattle.rtl_func.specs.Rules.{uid_fault}
use Rattle.rtl_func.specs.Uids.{is_ruled, is_uid, bad_uids, uids_of}
use Rattle.rtl_func.proofs.FaultLaws.{uid_faults_in, uid_ruled, uid_other}
use Rattle.law_rules.specs.Admitted.{IsAdmitted, StandsAt}
use Rattle.law_rules.proofs.Kept.{both_empty, no_faults}

is_good : (good : Bool) (uid : ℕ) → uid_fault good uid ≡ [] → good ≡ true
is_good true uid none = refl
is_good false uid none = absurd (let nothing : ⊥ = cc in nothing)

-- the first instruction of a chain has no fault, and none is behind it
first_good : (before : List ℕ) (i : Insn) (rest : List Insn) → uid_faults_in before (i ∷ rest) ≡ [] → is_ruled i ≡ true →
    (is_uid i.uid ≡ true) × (has_place before i.uid ≡ false) × (uid_faults_in (i.uid ∷ before) rest ≡ [])
first_good before i rest none ruled =
    let both = both_empty (uid_fault (is_uid i.uid && not (has_place before i.uid)) i.uid) (uid_faults_in (i.uid ∷ before) rest)
    (sym (uid_ruled before i rest ruled) ∙ none) in
    let good = and_parts (is_uid i.uid) (not (has_place before i.uid)) (is_good _ i.uid both.0) in
    (good.0, turned (has_place before i.uid) good.1, both.1)
  where
    turned : (b : Bool) → not b ≡ true → b ≡ false
    turned true is = absurd (false≢true is)
    turned false is = refl

-- it is behind a list that has what an earlier one had
behind : (before : List ℕ) (i : Insn) (rest : List Insn) → uid_faults_in before (i ∷ rest) ≡ [] →
    (more : List ℕ) × (uid_faults_in more rest ≡ []) × ((uid : ℕ) → has_place more uid ≡ false → has_place before uid ≡ false)
behind before i rest none = elim (cases_Bool (is_ruled i)) [
  | inl ruled ↦ (i.uid ∷ before, (first_good before i rest none ruled).2, λ uid out. (or_parts (i.uid == uid) (has_place before uid) out).1)
  | inr other ↦ (before, sym (uid_other before i rest other) ∙ none, λ uid out. out)
]

good_at : (before : List ℕ) (insns : List Insn) → uid_faults_in before insns ≡ [] → (place : ℕ) (i : Insn) →
    StandsAt insns place i → is_ruled i ≡ true →
    (is_uid i.uid ≡ true) × (has_place before i.uid ≡ false)
good_at before [] none place i at ruled = absurd (let nothing : ⊥ = cc in nothing)
good_at before (j ∷ insns) none zero i at ruled =
    let same : j ≡ i = cc in
    let good = first_good before j insns none (subst (λ k. is_ruled k ≡ true) (sym same) ruled) in
    (subst (λ k. is_uid k.uid ≡ true) same good.0, subst (λ k. has_place before k.uid ≡ false) same good.1)
good_at before (j ∷ insns) none (suc place) i at ruled =
    let more = behind before j insns none in
    let good = good_at more.0 insns more.1 place i at ruled in
    (good.0, more.2 i.uid good.1)

-- the first has another uid than one behind it
first_differs : (before : List ℕ) (i : Insn) (insns : List Insn) → uid_faults_in before (i ∷ insns) ≡ [] → is_ruled i ≡ true →
    (place : ℕ) (j : Insn) → StandsAt insns place j → is_ruled j ≡ true → i.uid ≡ j.uid → ⊥
first_differs before i insns none ruled place j at ruled' same =
    let good = good_at (i.uid ∷ before) insns (first_good before i insns none ruled).2 place j at ruled' in
    true≢false (sym (eq-eqb i.uid j.uid same) ∙ (or_parts (i.uid == j.uid) (has_place before j.uid) good.1).0)

differ : (before : List ℕ) (insns : List Insn) → uid_faults_in before insns ≡ [] → (p q : ℕ) (i j : Insn) → StandsAt insns p i →
    StandsAt insns q j →
    is_ruled i ≡ true → is_ruled j ≡ true → i.uid ≡ j.uid → p ≡ q
differ before [] none p q i j at at' ruled ruled' same = absurd (let nothing : ⊥ = cc in nothing)
differ before (k ∷ insns) none zero zero i j at at' ruled ruled' same = refl
differ before (k ∷ insns) none zero (suc q) i j at at' ruled ruled' same =
    let is : k ≡ i = cc in
    absurd (first_differs before k insns none (subst (λ m. is_ruled m ≡ true) (sym is) ruled) q j at' ruled' (ap (λ (m : Insn). m.uid) is ∙ same))
differ before (k ∷ insns) none (suc p) zero i j at at' ruled ruled' same =
    let is : k ≡ j = cc in
    absurd (first_differs before k insns none (subst (λ m. is_ruled m ≡ true) (sym is) ruled') p i at ruled (ap (λ (m : Insn). m.uid) is ∙ sym same))
differ before (k ∷ insns) none (suc p) (suc q) i j at at' ruled ruled' same =
    ap suc (differ (behind before k insns none).0 insns (behind before k insns none).1 p q i j at at' ruled ruled' same)

-- ---- of an admitted function

-- two instructions or labels with one uid stand at one place
pub uids_differ : (f : Function) → IsAdmitted f → (p q : ℕ) (i j : Insn) → StandsAt f.insns p i → StandsAt f.insns q j →
    is_ruled i ≡ true → is_ruled j ≡ true →
    i.uid ≡ j.uid → p ≡ q
uids_differ f admitted = differ [] f.insns (no_faults admitted.0 f admitted.1).uids

-- a uid is from 1 to 2,147,483,647
pub is_within : (f : Function) → IsAdmitted f → (place : ℕ) (i : Insn) → StandsAt f.insns place i → is_ruled i ≡ true →
    (1 ≤ i.uid) × (i.uid ≤ 2147483647)
is_within f admitted place i at ruled =
    let good = good_at [] f.insns (no_faults admitted.0 f admitted.1).uids place i at ruled in
    let both = and_parts (nat_le 1 i.uid) (nat_le i.uid 2147483647) good.0 in
    (leb-true 1 i.uid both.0, leb-true i.uid 2147483647 both.1)

-- ---- all of them

none_bad : (bad : List ℕ) → map (fault 1) bad ≡ [] → bad ≡ []
none_bad [] is = refl
none_bad (uid ∷ bad) is = absurd (let nothing : ⊥ = cc in nothing)

-- the first is none of those before, and the rest is good behind it
first_is_new : (before : List ℕ) (uid : ℕ) (uids : List ℕ) → bad_uids before (uid ∷ uids) ≡ [] →
    (has_place before uid ≡ false) × (bad_uids (uid ∷ before) uids ≡ [])
first_is_new before uid uids none = by (is_uid uid && not (has_place before uid)) refl none
  where
    turned : (b : Bool) → not b ≡ true → b ≡ false
    turned true is = absurd (false≢true is)
    turned false is = refl

    by : (good : Bool) → (is_uid uid && not (has_place before uid)) ≡ good →
        (if good then bad_uids (uid ∷ before) uids else uid ∷ bad_uids (uid ∷ before) uids) ≡ [] →
        (has_place before uid ≡ false) × (bad_uids (uid ∷ before) uids ≡ [])
    by true good rest = (turned (has_place before uid) (and_parts (is_uid uid) (not (has_place before uid)) good).1, rest)
    by false bad rest = absurd (let nothing : ⊥ = cc in nothing)

-- one of those before differs from all behind
apart : (before uids : List ℕ) (x : ℕ) → bad_uids before uids ≡ [] → has_place before x ≡ true → AllByRecursion (λ y. (x == y) ≡ false) uids
apart before [] x none has = tt
apart before (y ∷ uids) x none has =
    let first = first_is_new before y uids none in (
      false_from_ne_true (x == y) (λ same. true≢false (sym (subst (λ u. has_place before u ≡ true) (eqb-true x y same) has) ∙ first.0)),
      apart (y ∷ before) uids x first.1 (or_right (y == x) (has_place before x) has),
    )

distinct : (before uids : List ℕ) → bad_uids before uids ≡ [] → IsDistinct ◌==◌ uids
unfolding IsDistinct
distinct before [] none = tt
distinct before (uid ∷ uids) none =
    let first = first_is_new before uid uids none in
    (apart (uid ∷ before) uids uid first.1 (or_left (uid == uid) (has_place before uid) (eq-eqb uid uid refl)), distinct (uid ∷ before) uids first.1)

-- no two of the uids are the same
pub uids_distinct : (f : Function) → IsAdmitted f → IsDistinct ◌==◌ (uids_of f.insns)
uids_distinct f admitted =
    distinct [] (uids_of f.insns) (none_bad (bad_uids [] (uids_of f.insns)) (no_faults admitted.0 f admitted.1).uids)
