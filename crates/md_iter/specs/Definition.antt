-- The definitions of iterators, of their attributes and of constants: GCC Internals, "Iterators"
-- ("Mode Iterators", "Code Iterators", "Int Iterators") and "Constants". Each is a list of just its
-- parts; any other tree is a form.
use Rattle.std.specs.Prelude.{ℕ, ℤ, ◌==◌, Bool, true, false, ◌&&◌, not, List, [], ◌∷◌, Option, Some, None, if◌then◌else◌, option_map, option_and_then, codes}
use Rattle.std.specs.List.{filter_map, flat_map}
use Rattle.std.specs.Option.{is_some, unwrap_or}
use Rattle.std.specs.Int.{w64, cast_signed, int_wrapping_neg}
use Rattle.std.specs.Str.{bytes_eq}
use Rattle.rtx_tree.specs.declared.constants.Constant.{Constant}
use Rattle.lisp_read.specs.declared.tree.Tree.{Tree}
use Rattle.md_iter.specs.declared.definition.DefinitionKind.{DefinitionKind}
use Rattle.md_iter.specs.declared.definition.DefinitionKind.TheVariants.{Mode, Code, Int}
use Rattle.md_iter.specs.declared.definition.Value.{Value}
use Rattle.md_iter.specs.declared.definition.FormIterator.{FormIterator}
use Rattle.md_iter.specs.declared.definition.Entry.{Entry}
use Rattle.md_iter.specs.declared.definition.IteratorAttribute.{IteratorAttribute}
use Rattle.md_iter.specs.declared.definition.Definitions.{Definitions}
use Rattle.lisp_read.specs.Shape.{atom_of, string_of, items_of}
use Rattle.md_iter.specs.Shape.{vector_of}
use Rattle.text_words.specs.Numbers.{c_number_in}

-- the number behind a minus; `-0` is none
abbrev pub negated_in : List ℕ → Option ℤ
negated_in text =
    if bytes_eq text (codes "0") then None
    else option_map (λ n. int_wrapping_neg w64 (cast_signed w64 n)) (c_number_in text)

-- the number that a constant is defined as: one of C, with a minus in front or none, in 64 bits
-- that are read as signed
abbrev pub number_in : List ℕ → Option ℤ
number_in [] = None
number_in (b ∷ bs) =
    if b == 45 then negated_in bs else option_map (cast_signed w64) (c_number_in (b ∷ bs))

abbrev pub same_kind : DefinitionKind → DefinitionKind → Bool
same_kind Mode Mode = true
same_kind Code Code = true
same_kind Int Int = true
same_kind _ _ = false

abbrev pub both : {A B : Type 0} → Option A → Option B → Option (A × B)
both x y = option_and_then (λ a. option_map (λ b. (a, b)) y) x

abbrev pub either : {A : Type 0} → Option A → Option A → Option A
either (Some x) y = Some x
either None y = y

-- each of some trees, if all of them are of the kind that is read
abbrev pub each_of : {A : Type 0} → (Tree → Option A) → List Tree → Option (List A)
each_of read [] = Some []
each_of read (t ∷ ts) = option_and_then (λ x. option_map (λ xs. x ∷ xs) (each_of read ts)) (read t)

-- ---- the parts of definitions

-- an atom and a string
abbrev pub named_text : List Tree → Option (List ℕ × List ℕ)
named_text (name ∷ text ∷ []) = both (atom_of name) (string_of text)
named_text _ = None

abbrev pub bare_value : List ℕ → Value
bare_value name = record { name = name; condition = [] }

abbrev pub value_under : List ℕ × List ℕ → Value
value_under parts = record { name = parts.0; condition = parts.1 }

-- NAME or (NAME "condition")
abbrev pub value_of : Tree → Option Value
value_of t =
    either (option_map bare_value (atom_of t)) (option_map value_under (named_text (items_of t)))

abbrev pub entry_from : List ℕ × List ℕ → Entry
entry_from parts = record { value = parts.0; text = parts.1 }

-- (VALUE "text")
abbrev pub entry_of : Tree → Option Entry
entry_of t = option_map entry_from (named_text (items_of t))

abbrev pub named_number : List Tree → Option (List ℕ × ℤ)
named_number (name ∷ number ∷ []) = both (atom_of name) (option_and_then number_in (atom_of number))
named_number _ = None

abbrev pub constant_from : List ℕ × ℤ → Constant
constant_from parts = record { name = parts.0; number = parts.1 }

-- (NAME NUMBER)
abbrev pub constant_of : Tree → Option Constant
constant_of t = option_map constant_from (named_number (items_of t))

-- ---- the definitions

abbrev pub iterator_kind : List ℕ → Option DefinitionKind
iterator_kind head = if bytes_eq head (codes "define_mode_iterator") then Some Mode
    else if bytes_eq head (codes "define_code_iterator") then Some Code
    else if bytes_eq head (codes "define_int_iterator") then Some Int
    else None

abbrev pub attribute_kind : List ℕ → Option DefinitionKind
attribute_kind head = if bytes_eq head (codes "define_mode_attr") then Some Mode
    else if bytes_eq head (codes "define_code_attr") then Some Code
    else if bytes_eq head (codes "define_int_attr") then Some Int
    else None

-- the parts of (HEAD NAME [..])
abbrev pub named_vector : List Tree → Option (List ℕ × List ℕ × List Tree)
named_vector (head ∷ name ∷ parts ∷ []) = option_and_then (λ h. option_and_then (λ n. option_map (λ ts. (h, n, ts)) (vector_of parts)) (atom_of name)) (atom_of head)
named_vector _ = None

abbrev pub iterator_from : List ℕ × List ℕ × List Tree → Option FormIterator
iterator_from parts = option_and_then (λ kind. option_map (λ values. record { kind = kind; name = parts.1; values = values }) (each_of value_of parts.2)) (iterator_kind parts.0)

-- (define_mode_iterator NAME [VALUE ..]), or of codes or integers
abbrev pub iterator_of : Tree → Option FormIterator
iterator_of t = option_and_then iterator_from (named_vector (items_of t))

abbrev pub attribute_from : List ℕ × List ℕ × List Tree → Option IteratorAttribute
attribute_from parts = option_and_then (λ kind. option_map (λ entries. record { kind = kind; name = parts.1; entries = entries }) (each_of entry_of parts.2)) (attribute_kind parts.0)

-- (define_mode_attr NAME [ENTRY ..]), or of codes or integers
abbrev pub attribute_of : Tree → Option IteratorAttribute
attribute_of t = option_and_then attribute_from (named_vector (items_of t))

abbrev pub constant_trees : List Tree → Option (List Tree)
constant_trees (head ∷ parts ∷ []) = option_and_then (λ h. if bytes_eq h (codes "define_constants") then vector_of parts else None) (atom_of head)
constant_trees _ = None

-- (define_constants [CONSTANT ..])
abbrev pub constants_of : Tree → Option (List Constant)
constants_of t = option_and_then (each_of constant_of) (constant_trees (items_of t))

-- a tree that is none of these, a definition with missing or wrong parts among them
abbrev pub is_form : Tree → Bool
is_form t =
    not (is_some (iterator_of t)) && not (is_some (attribute_of t)) &&
    not (is_some (constants_of t))

-- ---- all definitions of a text, wherever they stand

abbrev pub iterators_in : List Tree → List FormIterator
iterators_in trees = filter_map iterator_of trees

abbrev pub attributes_in : List Tree → List IteratorAttribute
attributes_in trees = filter_map attribute_of trees

abbrev pub constants_or_none : Tree → List Constant
constants_or_none t = unwrap_or (constants_of t) []

abbrev pub all_constants_in : List Tree → List Constant
all_constants_in trees = flat_map constants_or_none trees

abbrev pub definitions_in : List Tree → Definitions
definitions_in trees = record { iterators = iterators_in trees; attributes = attributes_in trees; constants = all_constants_in trees }
