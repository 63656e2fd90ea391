-- What is known of the instructions that are made in the place of one.
use Rattle.std.proofs.Common.{◌≡◌, ◌⊎◌, ⊎_elim, inl, inr, ℕ, zero, suc, ◌+◌, ◌&&◌, Bool, true, false, List, [], ◌∷◌, ◌++◌, take, drop, Option, Some, None, Ok, refl, sym, subst}
use Rattle.std.specs.Prelude.{slice_get, if◌then◌else◌}
use Rattle.std.specs.List.{list_all}
use Rattle.rtx_tree.specs.declared.tree.Rtx.{Rtx}
use Rattle.rtx_tree.specs.declared.function.Insn.{Insn}
use Rattle.rtx_tree.specs.declared.function.Function.{Function}
use Rattle.rtx_tree.specs.declared.function.Kind.{Kind}
use Rattle.rtx_tree.specs.declared.function.Kind.TheVariants.{Plain, Jump, Call, Label, Barrier}
use Rattle.rtl_func.specs.Kinds.{is_jump_tree, is_call_tree}
use Rattle.form_needs.specs.Needs.{is_kind}
use Rattle.new_insns.specs.Made.{kind_of, insn_for, insns_for}
use Rattle.law_insn_replaced.specs.sym_state.State.{State, Runs, ran}
use Rattle.law_insn_replaced.specs.sym_insns.Run.{run_from}
use Rattle.law_insn_replaced.specs.sym_insns.Shape.{is_shaped, is_end, fits_kind, bad_from, bad_insn}
use Rattle.law_insn_replaced.specs.pass_refusal.equate.Side.{Insns}
use Rattle.law_insn_replaced.specs.pass_refusal.equate.Equated.{Equated}
use Rattle.law_insn_replaced.proofs.pass_refusal.equate.VerdictLaws.{verdict_same}
use Rattle.law_insn_replaced.proofs.pass_refusal.equate.Soundness.{no_return}
use Rattle.law_insn_replaced.specs.insn_replace.Replace.{made, ReplacedComes}

-- ---- what stands in lists

-- an element of a list
abbrev pub In : {A : Type 0} → List A → A → Type 0
In xs x = (place : ℕ) × (slice_get xs place ≡ Some x)

in_rest : {A : Type 0} (y : A) (xs : List A) (x : A) → In xs x → In (y ∷ xs) x
in_rest y xs x here = (suc here.0, here.1)

pub in_append : {A : Type 0} (xs ys : List A) (x : A) → In (xs ++ ys) x → In xs x ⊎ In ys x
in_append [] ys x here = inr here
in_append (y ∷ xs) ys x (zero, at) = inl (zero, at)
in_append (y ∷ xs) ys x (suc place, at) = ⊎_elim (λ first. inl (in_rest y xs x first)) (λ last. inr last) (in_append xs ys x (place, at))

pub in_take : {A : Type 0} (n : ℕ) (xs : List A) (x : A) → In (take n xs) x → In xs x
in_take zero xs x here = absurd (let none : ⊥ = cc in none)
in_take (suc n) [] x here = absurd (let none : ⊥ = cc in none)
in_take (suc n) (y ∷ xs) x (zero, at) = (zero, at)
in_take (suc n) (y ∷ xs) x (suc place, at) = in_rest y xs x (in_take n xs x (place, at))

pub in_drop : {A : Type 0} (n : ℕ) (xs : List A) (x : A) → In (drop n xs) x → In xs x
in_drop zero xs x here = here
in_drop (suc n) [] x here = here
in_drop (suc n) (y ∷ xs) x here = in_rest y xs x (in_drop n xs x here)

pub all_in : {A : Type 0} (test : A → Bool) (xs : List A) (x : A) → list_all test xs ≡ true → In xs x → test x ≡ true
all_in test [] x all here = absurd (let none : ⊥ = cc in none)
all_in test (y ∷ xs) x all (zero, at) = let same : y ≡ x = (let both : Some y ≡ Some x = at in cc) in subst (λ z. test z ≡ true) same (first (test y) (list_all test xs) all)
  where
    first : (a b : Bool) → (a && b) ≡ true → a ≡ true
    first true b e = refl
    first false b e = e
all_in test (y ∷ xs) x all (suc place, at) = all_in test xs x (rest (test y) (list_all test xs) all) (place, at)
  where
    rest : (a b : Bool) → (a && b) ≡ true → b ≡ true
    rest true b e = e
    rest false b e = cc

-- ---- kinds

kind_by : (jump call : Bool) → is_kind (if jump then Jump else (if call then Call else Plain)) ≡ true
kind_by true call = refl
kind_by false true = refl
kind_by false false = refl

pub is_kind_of : (x : Rtx) → is_kind (kind_of x) ≡ true
is_kind_of x = kind_by (is_jump_tree x) (is_call_tree x)

-- ---- the instructions of a sequence

-- it is made for an element of the sequence
pub record IsFor (old : Insn) (sequence : List Rtx) (i : Insn) : Type 0 where
  pub uid : ℕ
  pub pattern : Rtx
  pub from : In sequence pattern
  pub is : i ≡ insn_for old uid pattern

for_more : (old : Insn) (y : Rtx) (sequence : List Rtx) (i : Insn) → IsFor old sequence i → IsFor old (y ∷ sequence) i
for_more old y sequence i is = record { uid = is.uid; pattern = is.pattern; from = in_rest y sequence is.pattern is.from; is = is.is }

one_for : (old : Insn) (uid : ℕ) (x : Rtx) (more : List Rtx) (i : Insn) → insn_for old uid x ≡ i → IsFor old (x ∷ more) i
one_for old uid x more i is = record { uid = uid; pattern = x; from = (zero, refl); is = sym is }

pub made_for : (old : Insn) (uid : ℕ) (sequence : List Rtx) (i : Insn) → In (insns_for old uid sequence) i → IsFor old sequence i
made_for old uid [] i here = absurd (let none : ⊥ = cc in none)
made_for old uid (x ∷ []) i (zero, at) = one_for old old.uid x [] i (let both : Some (insn_for old old.uid x) ≡ Some i = at in cc)
made_for old uid (x ∷ []) i (suc place, at) = absurd (let none : ⊥ = cc in none)
made_for old uid (x ∷ y ∷ more) i (zero, at) = one_for old uid x (y ∷ more) i (let both : Some (insn_for old uid x) ≡ Some i = at in cc)
made_for old uid (x ∷ y ∷ more) i (suc place, at) = for_more old x (y ∷ more) i (made_for old (uid + 1) (y ∷ more) i (place, at))

-- ---- shapes

shaped_by : (kind : Kind) (i : Insn) (last : Bool) → is_kind kind ≡ true → fits_kind kind i last ≡ true → is_shaped i ≡ true
shaped_by Plain i last is fits = fits
shaped_by Jump i last is fits = left (is_shaped i) _ fits
  where
    left : (a b : Bool) → (a && b) ≡ true → a ≡ true
    left true b e = refl
    left false b e = e
shaped_by Call i last is fits = left (is_shaped i) last fits
  where
    left : (a b : Bool) → (a && b) ≡ true → a ≡ true
    left true b e = refl
    left false b e = e
shaped_by Label i last is fits = absurd (let none : ⊥ = cc in none)
shaped_by Barrier i last is fits = absurd (let none : ⊥ = cc in none)

first_fits : (b : Bool) (index : ℕ) (rest : Option ℕ) → (if b then rest else Some index) ≡ None → b ≡ true
first_fits true index rest none = refl
first_fits false index rest none = cc

rest_fits : (b : Bool) (index : ℕ) (rest : Option ℕ) → (if b then rest else Some index) ≡ None → rest ≡ None
rest_fits true index rest none = none
rest_fits false index rest none = cc

each_shaped : (index : ℕ) (insns : List Insn) (i : Insn) → bad_from index insns ≡ None → In insns i → is_kind i.kind ≡ true → is_shaped i ≡ true
each_shaped index [] i none here is = absurd (let none : ⊥ = cc in none)
each_shaped index (j ∷ insns) i none (zero, at) is =
    let same : j ≡ i = (let both : Some j ≡ Some i = at in cc) in
    let fits : fits_kind j.kind j (is_end insns) ≡ true = first_fits (fits_kind j.kind j (is_end insns)) index (bad_from (index + 1) insns) none in
    let here : fits_kind i.kind i (is_end insns) ≡ true = subst (λ (k : Insn). fits_kind k.kind k (is_end insns) ≡ true) same fits in
    shaped_by i.kind i (is_end insns) is here
each_shaped index (j ∷ insns) i none (suc place, at) is =
    each_shaped (index + 1) insns i (rest_fits (fits_kind j.kind j (is_end insns)) index (bad_from (index + 1) insns) none) (place, at) is

runs_good : (bad : Option ℕ) (came : Option State) (s : State) → ran bad came ≡ Runs s → bad ≡ None
runs_good None came s runs = refl
runs_good (Some index) came s runs = cc

-- what is equated has a shape
pub equated_shaped : (before after : List Insn) (live : List ℕ) (i : Insn) → Equated before (Insns after) live → In after i → is_kind i.kind ≡ true → is_shaped i ≡ true
equated_shaped before after live i equated here is =
    let alike = verdict_same before (Insns after) live equated (no_return before after) in
    each_shaped 0 after i (runs_good (bad_insn after) (run_from 0 after _) alike.second alike.runs_second) here is

pub replaced_shaped : (f g : Function) (place : ℕ) (i : Insn) (rule : List ℕ) (sequence : List Rtx) (j : Insn) → ReplacedComes f place i rule sequence (Ok g) → In (made f i sequence) j → is_kind j.kind ≡ true → is_shaped j ≡ true
replaced_shaped f _ place i rule sequence j (ReplacedComes.replaced live after equated short) here is = equated_shaped (i ∷ []) (made f i sequence) live j equated here is
