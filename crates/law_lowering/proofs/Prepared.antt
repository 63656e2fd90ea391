-- The operands that a form takes, and the instructions that make them so, keep to the registers of an instruction's own.
use Rattle.std.proofs.Common.{ℕ, ◌+◌, ◌&&◌, Bool, true, false, List, [], ◌∷◌, Option, Some, None}
use Rattle.std.specs.Prelude.{if◌then◌else◌, option_map, option_and_then, IfSome}
use Rattle.std.specs.Option.{option_map_or}
use Rattle.rtx_tree.specs.declared.code.Code.{Code}
use Rattle.rtx_tree.specs.declared.code.Code.TheVariants.{Mem}
use Rattle.rtx_tree.specs.declared.code.Mode.{Mode}
use Rattle.rtx_tree.specs.declared.code.Mode.TheVariants.{DI}
use Rattle.rtx_tree.specs.declared.tree.Rtx.{Rtx}
use Rattle.rtx_tree.specs.Registers.{pseudo}
use Rattle.rtx_tree.specs.Tree.{head_of, kids_of, reg_of}
use Rattle.md_operand.specs.Addresses.{is_legitimate_address}
use Rattle.md_recog.specs.Match.{Accepts}
use Rattle.md_forms.specs.declared.form.Entry.{Entry}
use Rattle.md_pred.specs.Holds.{holds}
use Rattle.std_name.specs.declared.standard.OperandRole.{OperandRole}
use Rattle.std_name.specs.declared.standard.OperandRole.TheVariants.{Target, Input, Comparison, Fixed}
use Rattle.std_name.specs.declared.standard.StandardOperand.{StandardOperand}
use Rattle.std_name.specs.declared.standard.Standard.{Standard}
use Rattle.std_name.specs.Names.{standard_of}
use Rattle.lower_insn.specs.declared.part.Plan.{Plan}
use Rattle.lower_insn.specs.declared.part.Prepared.{Prepared}
use Rattle.lower_insn.specs.Settings.{unchanged, joined, address_set, addressed_by, addressed_one, addressed, placeholder_of, refuses, input_set, target_moved, replaced_by, fitted_at, fitted_one, fitted, compared_by, compared, takes_comparisons, with_operands, with_comparisons}
use Rattle.lower_insn.specs.Plan.{form_for, patterns_at, is_move, behind_addresses, values_for, prepared_for, plan, planned_by, planned_as, planned}
use Rattle.law_insn_replaced.proofs.law_pass_needs.Places.{all_joined}
use Rattle.law_lowering.proofs.Keeping.{Keeps, AllKeep, parts_keep, other_parts, set_keeps, pseudo_keeps}
use Rattle.law_lowering.proofs.Standard.{Good, AllGood, GoodStandard, good_standard}
use Rattle.rtx_tree.specs.Code.{mode_or}

-- ---- what may be none

map_some : {A B : Type 0} (P : A → Type 0) (Q : B → Type 0) (f : A → B) → ((x : A) → P x → Q (f x)) → (o : Option A) → IfSome o P →
    IfSome (option_map f o) Q
map_some P Q f step (Some x) is = step x is
map_some P Q f step None is = tt

then_some : {A B : Type 0} (P : A → Type 0) (Q : B → Type 0) (f : A → Option B) → ((x : A) → P x → IfSome (f x) Q) → (o : Option A) → IfSome o P →
    IfSome (option_and_then f o) Q
then_some P Q f step (Some x) is = step x is
then_some P Q f step None is = tt

-- ---- operands

abbrev GoodPrepared : Prepared → Type 0
GoodPrepared p = AllKeep p.before × AllGood p.operands × AllKeep p.after

good_unchanged : (operand : StandardOperand) (next : ℕ) → Good operand → GoodPrepared (unchanged operand next)
good_unchanged operand next good = (tt, (good, tt), tt)

good_joined : (a b : Prepared) → GoodPrepared a → GoodPrepared b → GoodPrepared (joined a b)
good_joined a b first second = (
  all_joined Keeps a.before b.before first.0 second.0,
  all_joined Good a.operands b.operands first.1 second.1,
  all_joined Keeps a.after b.after first.2 second.2,
)

-- ---- addresses

good_address : (operand : StandardOperand) (address : Rtx) (next : ℕ) → Good operand → Keeps address →
    GoodPrepared (address_set operand address next)
good_address operand address next good keeps =
    let own = pseudo_keeps DI next in
    let set = set_keeps (reg_of DI (pseudo next)) address own keeps in
    let place = other_parts operand.tree (reg_of DI (pseudo next) ∷ []) good (own, tt) in
    ((set, tt), (place, tt), tt)

good_addressed_by : (c : Code) (parts : List Rtx) (operand : StandardOperand) (next : ℕ) → Good operand → AllKeep parts →
    GoodPrepared (addressed_by c parts operand next)
good_addressed_by Mem (address ∷ []) operand next good keep = by (is_legitimate_address address)
  where
    by : (b : Bool) → GoodPrepared (if b then unchanged operand next else address_set operand address next)
    by true = good_unchanged operand next good
    by false = good_address operand address next good keep.0
good_addressed_by _ parts operand next good keep = good_unchanged operand next good

good_addressed : (operands : List StandardOperand) (next : ℕ) → AllGood operands → GoodPrepared (addressed operands next)
good_addressed [] next good = (tt, tt, tt)
good_addressed (operand ∷ operands) next good =
    let first = addressed_one operand next in
    good_joined first (addressed operands first.next)
    (good_addressed_by (head_of operand.tree).code (kids_of operand.tree) operand next good.0 (parts_keep operand.tree good.0))
    (good_addressed operands first.next good.1)

-- ---- predicates

good_input : (m : Mode) (operand : StandardOperand) (next : ℕ) → Good operand → GoodPrepared (input_set m operand next)
good_input m operand next good =
    let own = pseudo_keeps m next in ((set_keeps (reg_of m (pseudo next)) operand.tree own good, tt), (own, tt), tt)

good_target : (m : Mode) (operand : StandardOperand) (next : ℕ) → Good operand → GoodPrepared (target_moved m operand next)
good_target m operand next good =
    let own = pseudo_keeps m next in (tt, (own, tt), (set_keeps operand.tree (reg_of m (pseudo next)) good own, tt))

good_replaced : (role : OperandRole) (m : Mode) (operand : StandardOperand) (next : ℕ) → Good operand →
    IfSome (replaced_by role m operand next) GoodPrepared
good_replaced Input m operand next good = good_input m operand next good
good_replaced Target m operand next good = good_target m operand next good
good_replaced Comparison m operand next good = good_unchanged operand next good
good_replaced Fixed m operand next good = tt

good_fitted_at : (accepts : Accepts) (held : Bool) (operand : StandardOperand) (next : ℕ) (p : Rtx) → Good operand →
    IfSome (fitted_at accepts held operand next p) GoodPrepared
good_fitted_at accepts held operand next p good = by (refuses accepts p operand.tree) held
  where
    mode : Mode
    mode = mode_or operand.mode (head_of p).mode

    by : (refused b : Bool) →
        IfSome (if refused then (if b then None else replaced_by operand.role mode operand next) else Some (unchanged operand next)) GoodPrepared
    by true true = tt
    by true false = good_replaced operand.role mode operand next good
    by false b = good_unchanged operand next good

good_fitted_one : (accepts : Accepts) (patterns : List Rtx) (held : Bool) (number : ℕ) (operand : StandardOperand) (next : ℕ) → Good operand →
    IfSome (fitted_one accepts patterns held number operand next) GoodPrepared
good_fitted_one accepts patterns held number operand next good = by (placeholder_of patterns number)
  where
    by : (o : Option Rtx) → IfSome (option_map_or (fitted_at accepts held operand next) o (Some (unchanged operand next))) GoodPrepared
    by (Some p) = good_fitted_at accepts held operand next p good
    by None = good_unchanged operand next good

good_fitted : (accepts : Accepts) (patterns : List Rtx) (held : Bool) (number : ℕ) (operands : List StandardOperand) (next : ℕ) → AllGood operands →
    IfSome (fitted accepts patterns held number operands next) GoodPrepared
good_fitted accepts patterns held number [] next good = (tt, tt, tt)
good_fitted accepts patterns held number (operand ∷ operands) next good =
    then_some GoodPrepared GoodPrepared (λ first. option_map (joined first) (fitted accepts patterns held (number + 1) operands first.next))
    (λ first one. map_some GoodPrepared GoodPrepared (joined first) (λ rest more. good_joined first rest one more)
    (fitted accepts patterns held (number + 1) operands first.next) (good_fitted accepts patterns held (number + 1) operands first.next good.1))
    (fitted_one accepts patterns held number operand next) (good_fitted_one accepts patterns held number operand next good.0)

good_values : (accepts : Accepts) (patterns : List Rtx) (held : Bool) (operands : List StandardOperand) (next : ℕ) → AllGood operands →
    IfSome (values_for accepts patterns held operands next) GoodPrepared
good_values accepts patterns held operands next good =
    let a = addressed operands next in
    let first = good_addressed operands next good in
    map_some GoodPrepared GoodPrepared (behind_addresses a) (λ b second. (all_joined Keeps a.before b.before first.0 second.0, second.1, second.2))
    (fitted accepts patterns held 0 a.operands a.next) (good_fitted accepts patterns held 0 a.operands a.next first.1)

-- ---- comparisons

good_compared_by : (role : OperandRole) (operand : StandardOperand) (behind : List StandardOperand) → Good operand → AllGood behind →
    Good (compared_by role operand behind)
good_compared_by Comparison operand (a ∷ b ∷ more) good all = other_parts operand.tree (a.tree ∷ b.tree ∷ []) good (all.0, (all.1.0, tt))
good_compared_by _ operand behind good all = good

good_compared : (operands : List StandardOperand) → AllGood operands → AllGood (compared operands)
good_compared [] good = tt
good_compared (operand ∷ operands) good = (good_compared_by operand.role operand operands good.0 good.1, good_compared operands good.1)

good_with : (accepts : Accepts) (patterns : List Rtx) (p : Prepared) → GoodPrepared p → IfSome (with_comparisons accepts patterns p) GoodPrepared
good_with accepts patterns p good = by (takes_comparisons accepts patterns 0 (compared p.operands))
  where
    by : (b : Bool) → IfSome (if b then Some (with_operands p (compared p.operands)) else None) GoodPrepared
    by true = (good.0, good_compared p.operands good.1, good.2)
    by false = tt

good_prepared : (accepts : Accepts) (patterns : List Rtx) (held : Bool) (operands : List StandardOperand) (next : ℕ) → AllGood operands →
    IfSome (prepared_for accepts patterns held operands next) GoodPrepared
good_prepared accepts patterns held operands next good =
    then_some GoodPrepared GoodPrepared (with_comparisons accepts patterns) (λ p is. good_with accepts patterns p is)
    (values_for accepts patterns held operands next) (good_values accepts patterns held operands next good)

-- ---- plans

-- what stands before what a form emits, and behind it
abbrev pub GoodPlan : Plan → Type 0
GoodPlan p = AllKeep p.before × AllKeep p.after

good_planned_by : (forms : List Entry) (made : Bool) (standard : Standard) (next form : ℕ) → GoodStandard standard →
    IfSome (planned_by forms made standard next form) GoodPlan
good_planned_by forms made standard next form good =
    map_some GoodPrepared GoodPlan (plan form) (λ p is. (is.0, is.2))
    (prepared_for (holds forms) (patterns_at forms form) (made && is_move standard.name) standard.operands next)
    (good_prepared (holds forms) (patterns_at forms form) (made && is_move standard.name) standard.operands next good)

good_planned_as : (forms : List Entry) (made : Bool) (next : ℕ) (standard : Standard) → GoodStandard standard →
    IfSome (planned_as forms made next standard) GoodPlan
good_planned_as forms made next standard good = by (form_for forms standard)
  where
    by : (form : Option ℕ) → IfSome (option_and_then (planned_by forms made standard next) form) GoodPlan
    by (Some form) = good_planned_by forms made standard next form good
    by None = tt

-- of a pattern that keeps, what its plan puts before it and behind it keeps
pub good_planned : (forms : List Entry) (made : Bool) (x : Rtx) (next : ℕ) → Keeps x → IfSome (planned forms made x next) GoodPlan
good_planned forms made x next keeps =
    then_some GoodStandard GoodPlan (planned_as forms made next) (λ standard good. good_planned_as forms made next standard good)
    (standard_of x) (good_standard x keeps)
