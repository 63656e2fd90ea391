-- The conditions and the preparation statements of forms: GCC Internals, "Everything about
-- Instruction Patterns", "Defining How to Split Instructions", "Defining RTL Sequences for Code
-- Generation" and, for the conditions of values, "Mode Iterators". Each text is a condition by
-- itself, and what holds where several hold is made of their trees.
use Rattle.std.specs.Prelude.{ℕ, ◌==◌, Bool, false, ◌&&◌, List, [], ◌∷◌, Option, Some, None, Result, Ok, Err, if◌then◌else◌}
use Rattle.std.specs.List.{fold, list_all}
use Rattle.rtx_tree.specs.declared.constants.Constant.{Constant}
use Rattle.lisp_read.specs.declared.tree.Tree.{Tree, out-Tree}
use Rattle.lisp_read.specs.declared.tree.Tree.TheOpen.{Tree-F}
use Rattle.lisp_read.specs.Shape.{string_of}
use Rattle.c_cond.specs.declared.tree.Tree as cond
use Rattle.c_cond.specs.Tree as cond_tree
use Rattle.text_words.specs.Blanks.{is_blank, behind_blanks}
use Rattle.md_pattern.specs.declared.reason.Reason.TheVariants as reason
use Rattle.md_pattern.specs.Reason.{judged_with}
use Rattle.pred_expr.specs.Texts.{condition_of, statements_of, always, nothing}
use Rattle.md_draft.specs.Patterns.{Judged, if_there}

-- ---- conditions

-- two conditions together, of which each is one by itself
abbrev pub both_hold : Judged cond.Tree → Judged cond.Tree → Judged cond.Tree
both_hold a b = judged_with cond_tree.both a b

-- a condition and that of a text; a text of blanks adds nothing
abbrev pub and_text : List Constant → Judged cond.Tree → List ℕ → Judged cond.Tree
and_text constants a text =
    if list_all is_blank text then a else both_hold a (condition_of constants text)

-- the condition of a text and those of the values of iterators
abbrev pub under : List Constant → List (List ℕ) → List ℕ → Judged cond.Tree
under constants values text = fold (and_text constants) (condition_of constants text) values

-- a condition is a string
abbrev pub condition_by_text : List Constant → List (List ℕ) → Option (List ℕ) → Judged cond.Tree
condition_by_text constants values None = Err reason.Parts
condition_by_text constants values (Some text) = under constants values text

abbrev pub condition_by : List Constant → List (List ℕ) → Tree → Judged cond.Tree
condition_by constants values t = condition_by_text constants values (string_of t)

unfoldable pub condition_in : List Constant → List (List ℕ) → Option Tree → Judged cond.Tree
condition_in constants values t = if_there always (condition_by constants values) t

-- ---- the condition of the split half of an instruction and its split

abbrev pub is_and : List ℕ → Bool
is_and (a ∷ b ∷ rest) = a == 38 && b == 38
is_and _ = false

abbrev pub behind_and : List ℕ → List ℕ
behind_and (a ∷ b ∷ rest) = rest
behind_and _ = []

-- the condition of a split, which is joined to that of the instruction where it begins with &&
abbrev pub split_under : List Constant → List (List ℕ) → Option Tree → List ℕ → Judged cond.Tree
split_under constants values insn text =
    if is_and (behind_blanks text) then and_text constants (condition_in constants values insn) (behind_and (behind_blanks text))
    else under constants values text

abbrev pub split_by_text : List Constant → List (List ℕ) → Option Tree → Option (List ℕ) →
    Judged cond.Tree
split_by_text constants values insn None = Err reason.Parts
split_by_text constants values insn (Some text) = split_under constants values insn text

abbrev pub split_condition_by : List Constant → List (List ℕ) → Option Tree → Tree →
    Judged cond.Tree
split_condition_by constants values insn t = split_by_text constants values insn (string_of t)

unfoldable pub split_condition_in : List Constant → List (List ℕ) → Option Tree → Option Tree →
    Judged cond.Tree
split_condition_in constants values insn t =
    if_there always (split_condition_by constants values insn) t

-- ---- statements

abbrev pub written_at : Tree-F Tree → Option (List ℕ)
written_at (Tree-F.Str place text) = Some text
written_at (Tree-F.Block place text) = Some text
written_at _ = None

-- what stands in quotes or braces
abbrev pub written : Tree → Option (List ℕ)
written t = written_at (out-Tree t)

abbrev pub statements_by_text : List Constant → Option (List ℕ) → Judged cond.Tree
statements_by_text constants None = Err reason.Parts
statements_by_text constants (Some text) = statements_of constants text

-- statements stand in quotes or braces
abbrev pub statements_by : List Constant → Tree → Judged cond.Tree
statements_by constants t = statements_by_text constants (written t)

-- statements may lack
unfoldable pub statements_in : List Constant → Option Tree → Judged cond.Tree
statements_in constants t = if_there nothing (statements_by constants) t
