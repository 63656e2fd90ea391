-- What is told as want of memory, and so says nothing of a function; and what is told of one group.
use Rattle.std.specs.Prelude.{◌≡◌, ℤ, Bool, true, false, List, Option}
use Rattle.md_desc.specs.md_forms.declared.form.Entry.{Entry}
use Rattle.run_refusal.specs.declared.refusal.Refusal.{Refusal}
use Rattle.run_refusal.specs.declared.refusal.Refusal.TheVariants as refusal
use Rattle.lint_groups.specs.declared.group.Group.{Group}
use Rattle.lint_groups.specs.Groups.{tries_of}
use Rattle.lint_refused.specs.declared.refused.Refused.{Refused}
use Rattle.lint_refused.specs.Told.{with_told}
use Rattle.lint_shapes.specs.Refused.{FirstRefused}

abbrev pub is_memory : Refusal → Bool
is_memory refusal.Memory = true
is_memory _ = false

-- the first of a group's functions that is refused, behind what was told
pub record GroupTold (forms : List Entry) (tested : List ℤ) (g : Group) (told more : List Refused) : Type 0 where
  pub first : Option Refused
  pub is_first : FirstRefused forms g (tries_of forms tested g) first
  pub made : more ≡ with_told told first
