-- What a choice of candidates makes of an alternative: an instance, where the form takes it.
use Rattle.std.specs.Prelude.{ℕ, ◌+◌, Bool, ◌&&◌, List, [], ◌∷◌, Option, Some, None, option_and_then, slice_get, if◌then◌else◌}
use Rattle.std.specs.List.{list_all}
use Rattle.rtx_tree.specs.declared.function.Insn.{Insn}
use Rattle.rtx_tree.specs.declared.tree.Rtx.{Rtx}
use Rattle.md_match.specs.Pattern.{Ops, instantiated}
use Rattle.md_desc.specs.Recog.{is_usable}
use Rattle.md_desc.specs.md_pred.Holds.{holds}
use Rattle.md_desc.specs.md_recog.Match.{is_accepted, is_met}
use Rattle.form_needs.specs.Needs.{output_facts}
use Rattle.lint_choices.specs.declared.change.Change.{Change}
use Rattle.lint_choices.specs.Registers.{registers_apart, registers_in}
use Rattle.lint_made.specs.declared.candidate.Candidate.{Candidate}
use Rattle.lint_made.specs.Made.{givers, picks_in, operands_by}
use Rattle.lint_insn.specs.Insn.{insn_of, is_lawful}
use Rattle.lint_tried.specs.Trial.{Trial}
use Rattle.lint_tried.specs.Offered.{own_registers}
use Rattle.lint_tried.specs.declared.instance.Instance.{Instance}

-- ---- registers

-- those of the candidate that an operand has
abbrev pub registers_of : Trial → Rtx → Option Candidate → List ℕ
registers_of t p None = []
registers_of t p (Some c) = own_registers t p c

abbrev pub picked_at : List (List Candidate) → List ℕ → ℕ → Option Candidate
picked_at candidates picks at = option_and_then (λ own. option_and_then (slice_get own) (slice_get picks at)) (slice_get candidates at)

-- those of each operand, from a place on
abbrev pub registers_from : Trial → List (List Candidate) → List ℕ → ℕ → List Rtx → List (List ℕ)
registers_from t candidates picks at [] = []
registers_from t candidates picks at (p ∷ ps) =
    registers_of t p (picked_at candidates picks at) ∷ registers_from t candidates picks (at + 1) ps

-- ---- operands

-- the operands where each has the candidate that is picked, over the registers of a choice
abbrev pub operands_with : Trial → List (List Candidate) → Change → List ℕ → Ops
operands_with t candidates change picks =
    operands_by (givers t.pattern) candidates picks (registers_in change (registers_apart (registers_from t candidates picks 0 (givers t.pattern))))

-- ---- instances

-- the predicate of each placeholder accepts its operand, the condition is not 0, the alternative
-- can be used with the operands, and the instruction can stand in a function
abbrev pub is_instance : Trial → Ops → Insn → Bool
is_instance t operands i =
    list_all (is_accepted (holds t.forms) operands) (givers t.pattern) && (
    is_met (holds t.forms) output_facts t.says.condition operands && (
    is_usable t.forms t.form operands t.alternative && is_lawful i))

abbrev pub instance_if : Trial → Ops → Insn → Option Instance
instance_if t operands i =
    if is_instance t operands i then Some (record { insn = i; operands = operands }) else None

-- of an instruction's pattern, where the operands make one
abbrev pub instance_by : Trial → Ops → Option Rtx → Option Instance
instance_by t operands None = None
instance_by t operands (Some pattern) = instance_if t operands (insn_of pattern)

abbrev pub instance_with : Trial → Ops → Option Instance
instance_with t operands = instance_by t operands (instantiated t.pattern operands)

-- the instance of a choice that differs so from some picks
abbrev pub instance_of : Trial → List (List Candidate) → List ℕ → Change → Option Instance
instance_of t candidates picks change =
    instance_with t (operands_with t candidates change (picks_in change picks))
