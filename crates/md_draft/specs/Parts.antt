-- The other parts of forms: GCC Internals, "Assigning Attribute Values to Insns", "Defining
-- Machine-Specific Predicates", "Defining Machine-Specific Constraints" and "Defining Attributes
-- and their Values".
use Rattle.std.specs.Prelude.{ℕ, List, [], ◌∷◌, Option, Some, None, Ok, if◌then◌else◌, codes, option_map, option_and_then}
use Rattle.rtx_tree.specs.declared.constants.Constant.{Constant}
use Rattle.lisp_read.specs.declared.tree.Tree.{Tree}
use Rattle.lisp_read.specs.Shape.{string_of, items_of, vector_of, is_vector, is_word}
use Rattle.md_text.specs.Lists as lists
use Rattle.md_text.specs.Lists.{members}
use Rattle.md_pattern.specs.declared.reason.Reason.TheVariants as reason
use Rattle.md_pattern.specs.Reason.{judged_map}
use Rattle.md_pattern.specs.Pattern.{or_aside}
use Rattle.pred_expr.specs.declared.question.Test as test
use Rattle.pred_expr.specs.Test.{test_of}
use Rattle.md_draft.specs.declared.draft.Attribute.{Attribute}
use Rattle.md_draft.specs.declared.head.RegisterClass.{RegisterClass}
use Rattle.md_draft.specs.Head.{class_named}
use Rattle.md_draft.specs.Patterns.{Judged, if_there}

-- ---- attributes

abbrev pub attribute_with : List ℕ → List ℕ → Attribute
attribute_with name values = record { name = name; values = members values }

-- (set_attr "NAME" "VALUES")
abbrev pub attribute_by : List Tree → Option Attribute
attribute_by (h ∷ n ∷ v ∷ []) =
    if is_word (codes "set_attr") h then option_and_then (λ name. option_map (attribute_with name) (string_of v)) (string_of n) else None
attribute_by _ = None

abbrev pub attribute_in : Tree → Option Attribute
attribute_in t = attribute_by (items_of t)

-- a vector of these
abbrev pub attributes_by : Tree → Judged (List Attribute)
attributes_by t =
    or_aside reason.Parts (if is_vector t then lists.each attribute_in (vector_of t) else None)

-- the vector of attributes may lack
unfoldable pub attributes_in : Option Tree → Judged (List Attribute)
attributes_in t = if_there [] attributes_by t

-- ---- what definitions say

-- the test of a predicate, or of a constraint
abbrev pub test_by : List Constant → Tree → Judged (Option test.Test)
test_by constants t = judged_map (λ x. Some x) (test_of constants t)

unfoldable pub test_in : List Constant → Option Tree → Judged (Option test.Test)
test_in constants t = if_there None (test_by constants) t

-- the class of a register constraint
abbrev pub class_by : Tree → Judged (Option RegisterClass)
class_by t =
    or_aside reason.Parts (option_map (λ c. Some c) (option_and_then class_named (string_of t)))

unfoldable pub class_in : Option Tree → Judged (Option RegisterClass)
class_in t = if_there None class_by t

-- the values of an attribute
abbrev pub values_by : Tree → Judged (List (List ℕ))
values_by t = or_aside reason.Parts (option_map members (string_of t))

unfoldable pub values_in : Option Tree → Judged (List (List ℕ))
values_in t = if_there [] values_by t

-- (const_string "VALUE")
abbrev pub default_by : List Tree → Option (List ℕ)
default_by (h ∷ v ∷ []) = if is_word (codes "const_string") h then string_of v else None
default_by _ = None

abbrev pub default_of_tree : Tree → Judged (List ℕ)
default_of_tree t = or_aside reason.Parts (default_by (items_of t))

unfoldable pub default_in : Option Tree → Judged (List ℕ)
default_in t = if_there [] default_of_tree t
