-- A form by its index, for the contracts of private functions alone.
use Rattle.std.specs.Prelude.{ℕ, Bool, false, List, slice_get}
use Rattle.std.specs.Option.{option_map_or}
use Rattle.md_match.specs.Pattern.{Ops}
use Rattle.md_forms.specs.declared.form.Entry.{Entry}
use Rattle.md_pred.specs.Holds.{holds}
use Rattle.lower_insn.specs.Plan.{is_met_by}

-- the condition of the form with an index holds with operands
abbrev pub is_met_at : List Entry → Ops → ℕ → Bool
is_met_at forms operands form =
    option_map_or (λ e. is_met_by (holds forms) operands e.form) (slice_get forms form) false
