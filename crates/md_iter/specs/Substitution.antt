-- A form with the values of a choice in the places of its iterators: GCC Internals, "Iterators" and
-- "Constants".
use Rattle.std.specs.Prelude.{ℕ, ℤ, Bool, true, false, List, ◌∷◌, ◌++◌, Option, Some, None, if◌then◌else◌, map, option_map}
use Rattle.std.specs.List.{find}
use Rattle.std.specs.Option.{unwrap_or}
use Rattle.std.specs.Fmt.{signed_decimal}
use Rattle.rtx_tree.specs.declared.constants.Constant.{Constant}
use Rattle.lisp_read.specs.declared.tree.Tree.{Tree, roll-Tree}
use Rattle.lisp_read.specs.declared.tree.Tree.TheOpen.{Tree-F}
use Rattle.lisp_read.specs.declared.tree.Tree.TheFolds.{fold-Tree}
use Rattle.name_places.specs.Names.{constant_named}
use Rattle.md_iter.specs.declared.definition.DefinitionKind.{DefinitionKind}
use Rattle.md_iter.specs.declared.definition.DefinitionKind.TheVariants.{Mode, Code, Int}
use Rattle.md_iter.specs.declared.definition.Definitions.{Definitions}
use Rattle.md_iter.specs.declared.substitution.Instance.{Instance}
use Rattle.text_words.specs.Cut.{cut}
use Rattle.md_iter.specs.Choice.{Chosen, is_iterator, from_head}
use Rattle.md_iter.specs.Attribute.{filling}
use Rattle.md_iter.specs.Angles.{filled}

-- ---- texts

-- the value of the iterator of a kind and a name
abbrev pub value_named : List Chosen → DefinitionKind → List ℕ → Option (List ℕ)
value_named choice kind name =
    option_map (λ c. c.value.name) (find (λ c. is_iterator kind name c.iterator) choice)

-- the value that a choice gives a name, or the name as it stands
abbrev pub value_or_name : List Chosen → DefinitionKind → List ℕ → List ℕ
value_or_name choice kind name = unwrap_or (value_named choice kind name) name

-- what stands before a colon, which is the code of a list's head
abbrev pub code_under : List Chosen → Bool → List ℕ → List ℕ
code_under choice is_head code = if is_head then value_or_name choice Code code else code

-- an atom with a colon, behind which the mode stands
abbrev pub with_mode : List Chosen → Bool → List ℕ → List ℕ → List ℕ
with_mode choice is_head code mode =
    code_under choice is_head code ++ (58 ∷ value_or_name choice Mode mode)

-- an atom without a colon: the code of a list's head, or an integer
abbrev pub without_mode : List Chosen → Bool → List ℕ → List ℕ
without_mode choice is_head text = value_or_name choice (if is_head then Code else Int) text

abbrev pub with_parts : List Chosen → Bool → List ℕ → Option (List ℕ × List ℕ) → List ℕ
with_parts choice is_head text (Some parts) = with_mode choice is_head parts.0 parts.1
with_parts choice is_head text None = without_mode choice is_head text

-- an atom with the values in the places of its iterators
abbrev pub with_values : List Chosen → Bool → List ℕ → List ℕ
with_values choice is_head text = with_parts choice is_head text (cut 58 text)

-- a text with its <..> replaced
abbrev pub filled_text : Definitions → List Chosen → List ℕ → List ℕ
filled_text definitions choice text = filled (filling definitions choice) text

-- a constant's name that isn't a head is its number
abbrev pub with_constant : List Constant → Bool → List ℕ → List ℕ
with_constant constants true text = text
with_constant constants false text =
    unwrap_or (option_map signed_decimal (constant_named constants text)) text

abbrev pub atom_text : Definitions → List Chosen → Bool → List ℕ → List ℕ
atom_text definitions choice is_head text = with_constant definitions.constants is_head (filled_text definitions choice (with_values choice is_head text))

-- ---- trees

-- A tree with other texts. In strings and blocks only <..> is replaced. The first tree of a
-- list is its head.
abbrev pub substituted_step : Definitions → List Chosen → Tree-F (Bool → Tree) → Bool → Tree
substituted_step definitions choice (Tree-F.Atom place text) is_head =
    roll-Tree (Tree-F.Atom place (atom_text definitions choice is_head text))
substituted_step definitions choice (Tree-F.Str place text) is_head =
    roll-Tree (Tree-F.Str place (filled_text definitions choice text))
substituted_step definitions choice (Tree-F.Block place text) is_head =
    roll-Tree (Tree-F.Block place (filled_text definitions choice text))
substituted_step definitions choice (Tree-F.List place items) is_head =
    roll-Tree (Tree-F.List place (from_head true items))
substituted_step definitions choice (Tree-F.Vector place items) is_head =
    roll-Tree (Tree-F.Vector place (from_head false items))

abbrev pub substituted : Definitions → List Chosen → Tree → Bool → Tree
substituted definitions choice = fold-Tree (Bool → Tree) (substituted_step definitions choice)

-- the conditions of the values: GCC Internals, "Mode Iterators", "Defining Mode Iterators"
abbrev pub conditions_of : List Chosen → List (List ℕ)
conditions_of choice = map (λ c. c.value.condition) choice

-- a form under a choice of values: with them in the places of the iterators, and with their
-- conditions, which hold besides its own
abbrev pub form_under : Definitions → Tree → List Chosen → Instance
form_under definitions form choice = record {
  tree = substituted definitions choice form false;
  conditions = conditions_of choice;
}
