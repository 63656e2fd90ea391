-- The forms that have standard names: GCC Internals, "Standard Pattern Names For Generation" and
-- "Defining RTL Sequences for Code Generation".
use Rattle.std.specs.Prelude.{ℕ, ◌&&◌, Bool, true, false, List, drop, Option, Some, None, Result, Ok, Err}
use Rattle.std.specs.List.{position_from}
use Rattle.std.specs.Str.{bytes_eq}
use Rattle.md_pattern.specs.declared.reason.Reason.{Reason}
use Rattle.md_draft.specs.declared.head.FormHead.{FormHead}
use Rattle.md_draft.specs.declared.head.FormHead.TheVariants as head
use Rattle.md_forms.specs.declared.form.Form.{Form}
use Rattle.md_forms.specs.declared.form.Entry.{Entry}

-- an expander or an instruction
abbrev pub makes_by_name : FormHead → Bool
makes_by_name head.Expand = true
makes_by_name head.Insn = true
makes_by_name _ = false

abbrev pub is_made_by_name : Result Form Reason → Bool
is_made_by_name (Ok form) = makes_by_name form.head
is_made_by_name (Err reason) = false

abbrev pub has_name : List ℕ → Option (List ℕ) → Bool
has_name name None = false
has_name name (Some own) = bytes_eq own name

-- an accepted expander or instruction has the name
abbrev pub is_named_form : List ℕ → Entry → Bool
is_named_form name e = has_name name e.name && is_made_by_name e.form

-- the first such form from an index on
abbrev pub named : List Entry → List ℕ → ℕ → Option ℕ
named forms name from = position_from (is_named_form name) from (drop from forms)
