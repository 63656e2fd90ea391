-- What a reason of a form is about, by the form's own text: where it stands, and what is written
-- there. GCC Internals, "Machine Descriptions".
use Rattle.std.specs.Prelude.{ℕ, ◌+◌, ◌-◌, Bool, true, List, Option, Some, None, if◌then◌else◌, length, option_map, option_and_then, slice_get}
use Rattle.std.specs.List.{find}
use Rattle.std.specs.Option.{is_some, is_none, option_or, unwrap_or}
use Rattle.rtx_tree.specs.declared.constants.Constant.{Constant}
use Rattle.rtx_tree.specs.declared.place.Place.{Place}
use Rattle.lisp_read.specs.declared.tree.Tree.{Tree, out-Tree}
use Rattle.lisp_read.specs.declared.tree.Tree.TheOpen.{Tree-F}
use Rattle.lisp_read.specs.Shape.{place_of, string_of, items_of, vector_of}
use Rattle.text_words.specs.Blanks.{behind_blanks}
use Rattle.md_pattern.specs.declared.reason.Reason.{Reason}
use Rattle.md_pattern.specs.declared.reason.Reason.TheVariants as reason
use Rattle.md_iter.specs.declared.substitution.Instance.{Instance}
use Rattle.md_draft.specs.Conditions.{is_and, behind_and, written}
use Rattle.md_draft.specs.Parts.{attribute_in}
use Rattle.c_stops.specs.declared.stop.Grammar.TheVariants as grammar
use Rattle.c_stops.proofs.Stops.{stop}
use Rattle.lint_about.specs.declared.about.About.{About}
use Rattle.lint_about.specs.declared.sought.Sought.{Sought}
use Rattle.lint_about.specs.declared.sought.Sought.TheVariants as sought
use Rattle.lint_about.specs.About.{whole, told, shown, line_of}
use Rattle.lint_about.specs.Within.{by_word, first_in, stops_in, string_stops}
use Rattle.lint_about.specs.Parts.{parts_of, part_at}

-- ---- a part of the wrong kind, a code, a mode

abbrev pub sought_in : List Constant → Sought → Option Tree → Option About
sought_in constants s part = option_and_then (first_in constants s) part

-- the first tree of the patterns, of the new sequence or of the test that has a reason
unfoldable pub tree_with : List Constant → Tree → Reason → Option About
tree_with constants form r =
    option_or (sought_in constants (sought.Pattern r) (part_at form (parts_of form).patterns))
    (option_or (sought_in constants (sought.Pattern r) (part_at form (parts_of form).sequence))
    (sought_in constants (sought.Test r) (part_at form (parts_of form).test)))

-- the first element of the attributes that is no (set_attr "NAME" "VALUES")
abbrev pub odd_attribute : Tree → Option About
odd_attribute attributes =
    option_map whole (find (λ t. is_none (attribute_in t)) (vector_of attributes))

abbrev pub block_at : Tree-F Tree → Tree → Option About
block_at (Tree-F.Block place text) t = Some (whole t)
block_at _ t = None

abbrev pub if_block : Tree → Option About
if_block t = block_at (out-Tree t) t

-- the C code that a form ends with
abbrev pub code_behind : Tree → Option About
code_behind form =
    option_and_then if_block (slice_get (items_of form) (length (items_of form) - 1))

-- the C code behind a definition, or else what it defines
abbrev pub odd_definition : Tree → Tree → About
odd_definition form definition =
    unwrap_or (code_behind form) (unwrap_or (by_word definition true) (whole definition))

abbrev pub odd_behind : Tree → Option About
odd_behind form =
    option_or (option_and_then odd_attribute (part_at form (parts_of form).attributes))
    (option_map (odd_definition form) (part_at form (parts_of form).definition))

-- what is missing, too much or of the wrong kind
unfoldable pub odd_part : List Constant → Tree → Option About
odd_part constants form = option_or (tree_with constants form reason.Parts) (odd_behind form)

-- ---- a condition, statements

-- the condition of a split behind the && that joins it to that of the instruction
abbrev pub behind_joint : List ℕ → List ℕ
behind_joint text = if is_and (behind_blanks text) then behind_and (behind_blanks text) else text

-- at a byte of what stands behind the joint
abbrev pub line_behind : Place → List ℕ → List ℕ → ℕ → About
line_behind quote text rest offset = line_of quote text (length text - length rest + offset)

abbrev pub joined_stops : List Constant → Tree → List ℕ → Option About
joined_stops constants quote text =
    option_map (line_behind (place_of quote) text (behind_joint text)) (stop grammar.Condition constants (behind_joint text)).value

abbrev pub split_stops : List Constant → Tree → Option About
split_stops constants quote = option_and_then (joined_stops constants quote) (string_of quote)

abbrev pub is_odd : List Constant → List ℕ → Bool
is_odd constants text = is_some (stop grammar.Condition constants text).value

-- the first condition of a value of an iterator that is none
abbrev pub odd_value : List Constant → Tree → List (List ℕ) → Option About
odd_value constants form values =
    option_map (shown (place_of form)) (find (is_odd constants) values)

-- the first that is written in the form and outside
unfoldable pub written_condition : List Constant → Tree → Option About
written_condition constants form =
    option_or (option_and_then (string_stops constants grammar.Condition) (part_at form (parts_of form).condition))
    (option_or (option_and_then (split_stops constants) (part_at form (parts_of form).split_condition))
    (sought_in constants sought.Condition (part_at form (parts_of form).test)))

-- the first that is outside
unfoldable pub odd_condition : List Constant → Instance → Option About
odd_condition constants form =
    option_or (written_condition constants form.tree) (odd_value constants form.tree form.conditions)

abbrev pub statements_stop : List Constant → Tree → Option About
statements_stop constants quote =
    option_and_then (stops_in constants grammar.Statements quote) (written quote)

-- the statements, from where they are outside
unfoldable pub odd_statements : List Constant → Tree → Option About
odd_statements constants form =
    option_and_then (statements_stop constants) (part_at form (parts_of form).statements)

-- ---- by the reason

-- the output as a whole
abbrev pub output_of : Tree → Option About
output_of form = option_map whole (part_at form (parts_of form).output)

-- what the reason is about, if there is more to tell than the form as a whole
abbrev pub found_by : List Constant → Instance → List ℕ → Reason → Option About
found_by constants form head reason.Head = Some (told (place_of form.tree) head)
found_by constants form head reason.Parts = odd_part constants form.tree
found_by constants form head reason.Code = tree_with constants form.tree reason.Code
found_by constants form head reason.Mode = tree_with constants form.tree reason.Mode
found_by constants form head reason.Condition = odd_condition constants form
found_by constants form head reason.Statements = odd_statements constants form.tree
found_by constants form head _ = output_of form.tree

-- what a reason of a form with a head is about, by the form's own text
unfoldable pub own_about : List Constant → Instance → List ℕ → Reason → About
own_about constants form head r = unwrap_or (found_by constants form head r) (whole form.tree)
