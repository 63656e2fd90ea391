-- A function that isn't refused keeps each rule.
use Rattle.std.proofs.Common.{◌≡◌, ℕ, zero, suc, ◌+◌, Bool, true, false, not, ◌&&◌, List, [], ◌∷◌, ◌++◌, take, Option, Some, None, refl, sym, subst, ◌∙◌, inl, inr, arith}
use Rattle.std.specs.Prelude.{slice_get}
use Rattle.std.specs.List.{AllByRecursion}
use Rattle.std.proofs.lemmas.Bool.{cases_Bool, true≢false, false≢true}
use Rattle.rtx_tree.specs.declared.function.Insn.{Insn}
use Rattle.rtx_tree.specs.declared.function.Function.{Function}
use Rattle.rtl_func.specs.declared.fault.Fault.{Fault}
use Rattle.rtl_func.specs.declared.rules.InsnRule.{InsnRule}
use Rattle.rtl_func.specs.declared.rules.InsnRule.TheVariants.{LabelsStand, KindsAgree, ModesAgree, OneModeAPseudo, ArgumentRegisters, Calls, Parallels, StackVariables}
use Rattle.rtl_func.specs.Faults.{fault, earlier, first_fault}
use Rattle.rtl_func.specs.Rules.{uid_faults, rule_number, insn_rules, keeps, breaks, rule_faults_in, rule_faults, all_rule_faults, name_faults, faults_of}
use Rattle.rtl_func.specs.Uids.{is_ruled}
use Rattle.rtl_func.proofs.FaultLaws.{rule_broken, rule_kept}
use Rattle.func_input.specs.run_refusal.declared.refusal.Refusal.{Refusal}
use Rattle.func_input.specs.Refused as input
use Rattle.func_input.specs.Refused.{refused_behind, refused_at, refused_from, first_refused, limit_passed, or_later}
use Rattle.func_input.proofs.Firsts.{refused_here}
use Rattle.law_rules.specs.Admitted.{IsAdmitted, StandsAt, KeepEach}

-- ---- from none refused to one admitted

later_none : (a b : Option Refusal) → or_later a b ≡ None → (a ≡ None) × (b ≡ None)
later_none None b is = (refl, is)
later_none (Some e) b is = absurd (let nothing : ⊥ = cc in nothing)

none_from : (functions : List Function) (start : ℕ) (rest : List Function) → refused_from functions start rest ≡ None →
    (index : ℕ) (f : Function) → slice_get rest index ≡ Some f → refused_at functions (start + index) f ≡ None
none_from functions start [] none index f at = absurd (let nothing : ⊥ = cc in nothing)
none_from functions start (g ∷ rest) none zero f at =
    let same : g ≡ f = cc in
    let here : start ≡ start + 0 = omega arith in
    subst (λ n. refused_at functions n f ≡ None) here (subst (λ h. refused_at functions start h ≡ None) same (later_none _ _ none).0)
none_from functions start (g ∷ rest) none (suc index) f at =
    let next : start + 1 + index ≡ start + suc index = omega arith in
    subst (λ n. refused_at functions n f ≡ None) next (none_from functions (start + 1) rest (later_none _ _ none).1 index f at)

-- each of some functions of which none is refused is admitted
pub each_admitted : (functions : List Function) → first_refused functions ≡ None → (index : ℕ) (f : Function) →
    slice_get functions index ≡ Some f → IsAdmitted f
each_admitted functions none index f at =
    let here : 0 + index ≡ index = omega arith in
    (take index functions, sym (refused_here functions index f at) ∙ subst (λ n. refused_at functions n f ≡ None) here (none_from functions 0 functions none index f at))

-- ---- from one admitted to no faults

told_none : (f : Function) (o : Option Fault) → input.rule_broken f o ≡ None → o ≡ None
told_none f None is = refl
told_none f (Some a) is = absurd (let nothing : ⊥ = cc in nothing)

no_first : (faults : List Fault) → first_fault faults ≡ None → faults ≡ []
no_first [] is = refl
no_first (a ∷ faults) is = absurd (some a (first_fault faults) is)
  where
    some : (a : Fault) (o : Option Fault) → earlier (Some a) o ≡ None → ⊥
    some a None is = let nothing : ⊥ = cc in nothing
    some a (Some b) is = let nothing : ⊥ = cc in nothing

pub both_empty : {A : Type 0} (xs ys : List A) → xs ++ ys ≡ [] → (xs ≡ []) × (ys ≡ [])
both_empty [] ys is = (refl, is)
both_empty (x ∷ xs) ys is = absurd (let nothing : ⊥ = cc in nothing)

-- the function breaks no rule
pub record NoFaults (before : List Function) (f : Function) : Type 0 where
  pub uids : uid_faults f.insns ≡ []
  pub rules : all_rule_faults f insn_rules ≡ []
  pub names : name_faults before f ≡ []

pub no_faults : (before : List Function) (f : Function) → refused_behind before f ≡ None → NoFaults before f
no_faults before f none =
    let all : faults_of before f ≡ [] = no_first (faults_of before f) (told_none f _ (later_none _ (limit_passed f) none).0) in
    let first = both_empty (uid_faults f.insns) _ all in
    let others = both_empty (all_rule_faults f insn_rules) (name_faults before f) first.1 in
    record { uids = first.0; rules = others.0; names = others.1 }

-- and is within the limits
pub within_limits : (before : List Function) (f : Function) → refused_behind before f ≡ None → limit_passed f ≡ None
within_limits before f none = (later_none _ (limit_passed f) none).1

-- ---- each rule

unbroken : (rule : InsnRule) (f : Function) (insns : List Insn) → rule_faults_in rule f insns ≡ [] → (place : ℕ) (i : Insn) →
    StandsAt insns place i → breaks rule f i ≡ false
unbroken rule f [] none place i at = absurd (let nothing : ⊥ = cc in nothing)
unbroken rule f (j ∷ insns) none place i at = elim (cases_Bool (breaks rule f j)) [
  | inl broken ↦ absurd (
      let is : fault (rule_number rule) j.uid ∷ rule_faults_in rule f insns ≡ [] = sym (rule_broken rule f j insns broken) ∙ none in
      let nothing : ⊥ = cc in
      nothing)
  | inr kept ↦ by place at kept (unbroken rule f insns (sym (rule_kept rule f j insns kept) ∙ none))
]
  where
    by : (place : ℕ) → StandsAt (j ∷ insns) place i → breaks rule f j ≡ false →
        ((place : ℕ) (i : Insn) → StandsAt insns place i → breaks rule f i ≡ false) → breaks rule f i ≡ false
    by zero at kept rest = let same : j ≡ i = cc in subst (λ k. breaks rule f k ≡ false) same kept
    by (suc place) at kept rest = rest place i at

kept_where_ruled : (ruled kept : Bool) → (ruled && not kept) ≡ false → ruled ≡ true → kept ≡ true
kept_where_ruled true true is here = refl
kept_where_ruled true false is here = absurd (true≢false is)
kept_where_ruled false kept is here = absurd (false≢true here)

in_all : (f : Function) (rules : List InsnRule) → all_rule_faults f rules ≡ [] → AllByRecursion (λ rule. rule_faults f rule ≡ []) rules
in_all f [] none = tt
in_all f (rule ∷ rules) none =
    let both = both_empty (rule_faults f rule) (all_rule_faults f rules) none in
    (both.0, in_all f rules both.1)

no_rule_faults : (f : Function) → AllByRecursion (λ rule. rule_faults f rule ≡ []) insn_rules → (rule : InsnRule) → rule_faults f rule ≡ []
no_rule_faults f all LabelsStand = all.0
no_rule_faults f all KindsAgree = all.1.0
no_rule_faults f all ModesAgree = all.1.1.0
no_rule_faults f all OneModeAPseudo = all.1.1.1.0
no_rule_faults f all ArgumentRegisters = all.1.1.1.1.0
no_rule_faults f all Calls = all.1.1.1.1.1.0
no_rule_faults f all Parallels = all.1.1.1.1.1.1.0
no_rule_faults f all StackVariables = all.1.1.1.1.1.1.1.0

-- each instruction of an admitted function keeps each rule on patterns
pub keep_each : (f : Function) → IsAdmitted f → KeepEach f
keep_each f admitted rule place i at ruled =
    let none = no_rule_faults f (in_all f insn_rules (no_faults admitted.0 f admitted.1).rules) rule in
    kept_where_ruled (is_ruled i) (keeps rule f i) (unbroken rule f f.insns none place i at) ruled
