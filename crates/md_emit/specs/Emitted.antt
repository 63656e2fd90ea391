-- What a form of a description emits: GCC Internals, "Defining RTL Sequences for Code Generation"
-- and "Defining How to Split Instructions".
use Rattle.std.specs.Prelude.{ℕ, Bool, List, [], Option, Some, None, Result, Ok, Err, option_and_then, slice_get}
use Rattle.std.specs.List.{list_all}
use Rattle.rtx_tree.specs.declared.tree.Rtx.{Rtx}
use Rattle.rtl_func.specs.Calls.{argument_registers}
use Rattle.c_eval.specs.declared.facts.Facts.{Facts}
use Rattle.md_pattern.specs.declared.reason.Reason.{Reason}
use Rattle.md_match.specs.Pattern.{Ops}
use Rattle.md_forms.specs.declared.form.Form.{Form}
use Rattle.md_forms.specs.declared.form.Entry.{Entry}
use Rattle.md_desc.specs.md_pred.Holds.{holds}
use Rattle.gen_emit.specs.declared.emission.Emission.{Emission}
use Rattle.gen_emit.specs.Emission.{emitted}

abbrev pub says_of : Result Form Reason → Option Form
says_of (Ok form) = Some form
says_of (Err reason) = None

-- what the form with an index says, where it is accepted
abbrev pub says_at : List Entry → ℕ → Option Form
says_at forms form = option_and_then (λ e. says_of e.form) (slice_get forms form)

-- What the form with an index emits with operands, where pseudo registers are free from a number
-- on; none where it fails, or is not accepted.
abbrev pub emitted_by : List Entry → Facts → ℕ → Ops → ℕ → Option Emission
emitted_by forms facts form operands next =
    option_and_then (λ says. emitted (holds forms) facts says operands next) (says_at forms form)

-- of the hard registers a sequence names a0 to a7 alone
abbrev pub keeps_to_arguments : List Rtx → Bool
keeps_to_arguments sequence = list_all (λ x. argument_registers x []) sequence
