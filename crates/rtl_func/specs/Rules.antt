-- The rules of a well-formed function, by number, and the first place at which one fails: GCC
-- Internals, "Insns" and "RTL Objects".
use Rattle.std.specs.Prelude.{◌≡◌, ℕ, ◌&&◌, ◌==◌, not, Bool, if◌then◌else◌, List, [], ◌∷◌, ◌++◌, map, filter, take, slice_get, Option, Some, None, Result, Ok, Err}
use Rattle.std.specs.List.{list_any, flat_map}
use Rattle.std.specs.Str.{bytes_eq}
use Rattle.rtx_tree.specs.declared.function.Insn.{Insn}
use Rattle.rtx_tree.specs.declared.function.Function.{Function}
use Rattle.rtl_func.specs.Faults.{fault}
use Rattle.rtl_func.specs.Uids.{is_ruled, uids_of, bad_uids}
use Rattle.rtl_func.specs.Kinds.{labels_stand, kinds_agree}
use Rattle.rtl_func.specs.Modes.{modes_agree, one_mode_a_pseudo}
use Rattle.rtl_func.specs.Calls.{argument_registers, calls_agree}
use Rattle.rtl_func.specs.Effects.{parallels_agree, stack_variables}
use Rattle.rtl_func.specs.declared.fault.Fault.{Fault}
use Rattle.rtl_func.specs.declared.rules.InsnRule.{InsnRule}
use Rattle.rtl_func.specs.declared.rules.InsnRule.TheVariants.{LabelsStand, KindsAgree, ModesAgree, OneModeAPseudo, ArgumentRegisters, Calls, Parallels, StackVariables}
use Rattle.rtl_func.specs.declared.check_rules.CheckRefusal.{CheckRefusal}
use Rattle.rtl_func.specs.declared.check_rules.CheckRefusal.TheVariants.{IllFormed, Memory}

-- ---- rule 1: uids differ, and are from 1 to 2,147,483,647; it fails at each that is none, or that an earlier place has

abbrev pub uid_faults : List Insn → List Fault
uid_faults insns = map (fault 1) (bad_uids [] (uids_of insns))

-- the fault of one uid, unless it is good
abbrev pub uid_fault : Bool → ℕ → List Fault
uid_fault good uid = if good then [] else fault 1 uid ∷ []

-- ---- rules 2 to 9, which each instruction keeps or breaks

abbrev pub rule_number : InsnRule → ℕ
rule_number LabelsStand = 2
rule_number KindsAgree = 3
rule_number ModesAgree = 4
rule_number OneModeAPseudo = 5
rule_number ArgumentRegisters = 6
rule_number Calls = 7
rule_number Parallels = 8
rule_number StackVariables = 9

abbrev pub insn_rules : List InsnRule
insn_rules = LabelsStand ∷ KindsAgree ∷ ModesAgree ∷ OneModeAPseudo ∷ ArgumentRegisters ∷ Calls ∷ Parallels ∷ StackVariables ∷ []

abbrev pub keeps : InsnRule → Function → Insn → Bool
keeps LabelsStand f i = labels_stand f.insns i.pattern
keeps KindsAgree f i = kinds_agree i.kind i.pattern
keeps ModesAgree f i = modes_agree i.pattern
keeps OneModeAPseudo f i = one_mode_a_pseudo f.insns i.pattern
keeps ArgumentRegisters f i = argument_registers i.pattern i.uses
keeps Calls f i = calls_agree i.kind i.pattern i.uses
keeps Parallels f i = parallels_agree i.pattern
keeps StackVariables f i = stack_variables f.locals i.pattern

abbrev pub breaks : InsnRule → Function → Insn → Bool
breaks rule f i = is_ruled i && not (keeps rule f i)

abbrev pub rule_faults_in : InsnRule → Function → List Insn → List Fault
rule_faults_in rule f insns =
    map (λ i. fault (rule_number rule) i.uid) (filter (breaks rule f) insns)

abbrev pub rule_faults : Function → InsnRule → List Fault
rule_faults f rule = rule_faults_in rule f f.insns

abbrev pub all_rule_faults : Function → List InsnRule → List Fault
all_rule_faults f rules = flat_map (rule_faults f) rules

-- ---- rule 10: the names of functions differ, and a result stands in a0; it fails at each function whose name an earlier one has

abbrev pub has_name : List ℕ → Function → Bool
has_name name f = bytes_eq f.name name

abbrev pub has_own_name : List Function → Function → Bool
has_own_name before f = not (list_any (has_name f.name) before) && (f.result_reg == 10)

abbrev pub name_faults : List Function → Function → List Fault
name_faults before f = if has_own_name before f then [] else fault 10 0 ∷ []

-- ---- all rules

-- where a function that stands behind others breaks which rule
abbrev pub faults_of : List Function → Function → List Fault
faults_of before f = uid_faults f.insns ++ (all_rule_faults f insn_rules ++ name_faults before f)

abbrev pub faults_by : List Function → ℕ → Option Function → List Fault
faults_by functions index None = []
faults_by functions index (Some f) = faults_of (take index functions) f

-- where the function at an index breaks which rule
abbrev pub faults : List Function → ℕ → List Fault
faults functions index = faults_by functions index (slice_get functions index)

-- what is told is given; a refusal is the one that is told; want of memory is free
abbrev pub Gives : Result (Unit {0}) CheckRefusal → Option Fault → Type 0
Gives (Ok done) first = first ≡ None
Gives (Err (IllFormed uid rule)) first = first ≡ Some (fault rule uid)
Gives (Err Memory) first = Unit {0}
