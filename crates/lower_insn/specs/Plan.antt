-- How an instruction is made by the form of its standard name: GCC Internals, "Standard Pattern
-- Names For Generation" and "Defining RTL Sequences for Code Generation".
use Rattle.std.specs.Prelude.{ℕ, Bool, false, ◌&&◌, if◌then◌else◌, List, [], ◌++◌, ◌==◌, map, codes, Option, Some, None, Result, Ok, Err, option_map, option_and_then, slice_get}
use Rattle.std.specs.Option.{option_map_or}
use Rattle.std.specs.List.{position_from, starts_with}
use Rattle.rtx_tree.specs.declared.tree.Rtx.{Rtx}
use Rattle.md_pattern.specs.declared.reason.Reason.{Reason}
use Rattle.md_match.specs.Pattern.{Ops}
use Rattle.md_recog.specs.Match.{Accepts, is_met}
use Rattle.md_forms.specs.declared.form.Form.{Form}
use Rattle.md_forms.specs.declared.form.Entry.{Entry}
use Rattle.md_pred.specs.Holds.{holds}
use Rattle.form_needs.specs.Needs.{lower_facts}
use Rattle.gen_emit.specs.declared.emission.Emission.{Emission}
use Rattle.md_emit.specs.Named.{is_named_form}
use Rattle.md_emit.specs.Emitted.{emitted_by, keeps_to_arguments}
use Rattle.std_name.specs.declared.standard.StandardOperand.{StandardOperand}
use Rattle.std_name.specs.declared.standard.Standard.{Standard}
use Rattle.std_name.specs.Names.{standard_of}
use Rattle.lower_insn.specs.declared.part.Prepared.{Prepared}
use Rattle.lower_insn.specs.declared.part.Plan.{Plan}
use Rattle.lower_insn.specs.Settings.{prepared, addressed, fitted, with_comparisons}

-- operands by their numbers
abbrev pub numbered : List StandardOperand → Ops
numbered operands = map (λ operand. Some operand.tree) operands

-- ---- the form

-- the condition of a form holds with operands
abbrev pub is_met_by : Accepts → Ops → Result Form Reason → Bool
is_met_by accepts operands (Ok form) = is_met accepts lower_facts form.condition operands
is_met_by accepts operands (Err reason) = false

abbrev pub is_form : Accepts → List ℕ → Ops → Entry → Bool
is_form accepts name operands e = is_named_form name e && is_met_by accepts operands e.form

-- the first form that has a name and whose condition holds
abbrev pub first_form : List Entry → List ℕ → Ops → Option ℕ
first_form forms name operands = position_from (is_form (holds forms) name operands) 0 forms

-- the one of an instruction, with its own operands
abbrev pub form_for : List Entry → Standard → Option ℕ
form_for forms standard = first_form forms standard.name (numbered standard.operands)

abbrev pub patterns_by : Result Form Reason → List Rtx
patterns_by (Ok form) = form.patterns
patterns_by (Err reason) = []

-- the patterns of the form with an index
abbrev pub patterns_at : List Entry → ℕ → List Rtx
patterns_at forms form = option_map_or (λ e. patterns_by e.form) (slice_get forms form) []

-- ---- the operands

-- a name that begins with `mov`
abbrev pub is_move : List ℕ → Bool
is_move name = starts_with ◌==◌ name (codes "mov")

-- what makes the addresses, and behind it what the predicates ask for
abbrev pub behind_addresses : Prepared → Prepared → Prepared
behind_addresses a b = prepared (a.before ++ b.before) b.operands b.after b.next

-- the addresses of all operands first, then what their predicates ask for
abbrev pub values_for : Accepts → List Rtx → Bool → List StandardOperand → ℕ → Option Prepared
values_for accepts patterns held operands next =
    let a = addressed operands next in option_map (behind_addresses a) (fitted accepts patterns held 0 a.operands a.next)

-- then comparisons of what the operands are by now, and what their predicates say
abbrev pub prepared_for : Accepts → List Rtx → Bool → List StandardOperand → ℕ → Option Prepared
prepared_for accepts patterns held operands next =
    option_and_then (with_comparisons accepts patterns) (values_for accepts patterns held operands next)

-- ---- the plan: a form, what stands before what it emits, its operands, what stands behind, and the next free pseudo register

abbrev pub plan : ℕ → Prepared → Plan
plan form p = record { form = form; before = p.before; operands = numbered p.operands; after = p.after; next = p.next }

abbrev pub planned_by : List Entry → Bool → Standard → ℕ → ℕ → Option Plan
planned_by forms made standard next form =
    option_map (plan form) (prepared_for (holds forms) (patterns_at forms form) (made && is_move standard.name) standard.operands next)

abbrev pub planned_as : List Entry → Bool → ℕ → Standard → Option Plan
planned_as forms made next standard =
    option_and_then (planned_by forms made standard next) (form_for forms standard)

-- How an instruction is made, which lowering itself may have made; none where it has no standard
-- name, no form has the name with its condition, or an operand is refused for which no register can
-- stand.
abbrev pub planned : List Entry → Bool → Rtx → ℕ → Option Plan
planned forms made x next = option_and_then (planned_as forms made next) (standard_of x)

-- ---- what the form emits

abbrev pub if_kept : Emission → Option Emission
if_kept e = if keeps_to_arguments e.sequence then Some e else None

-- what a form emits before registers have homes: a sequence that names a hard register other than
-- a0 to a7 is none
abbrev pub emission_of : List Entry → ℕ → Ops → ℕ → Option Emission
emission_of forms form operands next =
    option_and_then if_kept (emitted_by forms lower_facts form operands next)
