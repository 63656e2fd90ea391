-- An alternative of a form that is tried, and what it takes in the place of an operand: GCC
-- Internals, "RTL Template", "Defining Machine-Specific Predicates" and "Multiple Alternative
-- Constraints".
use Rattle.std.specs.Prelude.{ℕ, ◌^◌, ℤ, pos, negsuc, Bool, true, ◌&&◌, nat_lt, List, [], Option, Some, None, if◌then◌else◌}
use Rattle.std.specs.Option.{option_map_or}
use Rattle.rtx_tree.specs.declared.tree.Rtx.{Rtx}
use Rattle.rtx_tree.specs.Tree.{head_of}
use Rattle.md_desc.specs.md_forms.declared.form.Form.{Form}
use Rattle.md_desc.specs.md_forms.declared.form.Entry.{Entry}
use Rattle.md_desc.specs.md_pred.Holds.{holds}
use Rattle.md_desc.specs.md_recog.Match.{names_predicate}
use Rattle.md_constr.specs.Fits.{number_admits}

-- an alternative of a form of a description, with what the form says and its pattern
pub record Trial : Type 0 where
  pub forms : List Entry
  pub form : ℕ
  pub alternative : ℕ
  pub says : Form
  pub pattern : Rtx

-- the predicate that a placeholder names accepts a tree in the placeholder's mode
unfoldable pub predicate_takes : Trial → Rtx → Rtx → Bool
predicate_takes t p x =
    if names_predicate (head_of p).code then holds t.forms (head_of p).name x (head_of p).mode else true

-- the number of an operand
abbrev pub operand_number : ℤ → Option ℕ
operand_number (pos n) = if nat_lt n (2 ^ 32) then Some n else None
operand_number (negsuc n) = None

-- the constraint of an operand admits a tree in the alternative, where no other operand is known
unfoldable pub constraint_takes : Trial → Rtx → Rtx → Bool
constraint_takes t p x = option_map_or (λ number. number_admits t.forms (holds t.forms) t.form t.alternative [] number x) (operand_number (head_of p).number) true

-- a tree is taken in the place of a placeholder, by itself
unfoldable pub takes : Trial → Rtx → Rtx → Bool
takes t p x = predicate_takes t p x && constraint_takes t p x
