-- The iterators that a form uses, and the choices of their values: GCC Internals, "Iterators".
use Rattle.std.specs.Prelude.{ℕ, ◌*◌, Bool, true, false, ◌&&◌, List, [], ◌∷◌, ◌++◌, Option, Some, None, if◌then◌else◌, map, length}
use Rattle.std.specs.List.{find, flat_map, fold, list_any}
use Rattle.std.specs.Str.{bytes_eq}
use Rattle.std.specs.Borrow.{Bor}
use Rattle.lisp_read.specs.declared.tree.Tree.{Tree}
use Rattle.lisp_read.specs.declared.tree.Tree.TheOpen.{Tree-F}
use Rattle.lisp_read.specs.declared.tree.Tree.TheFolds.{fold-Tree}
use Rattle.md_iter.specs.declared.choice.Choice.{Choice}
use Rattle.md_iter.specs.declared.definition.DefinitionKind.{DefinitionKind}
use Rattle.md_iter.specs.declared.definition.DefinitionKind.TheVariants.{Mode, Code, Int}
use Rattle.md_iter.specs.declared.definition.Value.{Value}
use Rattle.md_iter.specs.declared.definition.FormIterator.{FormIterator}
use Rattle.text_words.specs.Cut.{cut}
use Rattle.md_iter.specs.Definition.{same_kind}

-- an iterator with the value that it has in a substitution
pub record Chosen : Type 0 where
  pub iterator : FormIterator
  pub value : Value

-- ---- the iterators of a form

abbrev pub is_iterator : DefinitionKind → List ℕ → FormIterator → Bool
is_iterator kind name i = same_kind i.kind kind && bytes_eq i.name name

-- the first definition of an iterator
abbrev pub iterator_named : DefinitionKind → List ℕ → List FormIterator → Option FormIterator
iterator_named kind name iterators = find (is_iterator kind name) iterators

-- the iterator, unless it is there already
abbrev pub added : List FormIterator → Option FormIterator → List FormIterator
added used None = used
added used (Some i) = if list_any (is_iterator i.kind i.name) used then used else used ++ i ∷ []

-- An atom uses a code iterator as the code of a list's head, a mode iterator behind a colon, and an
-- integer iterator as the whole atom elsewhere.
abbrev pub used_by_parts : List FormIterator → Bool → List ℕ → Option (List ℕ × List ℕ) →
    List (Option FormIterator)
used_by_parts iterators true text (Some parts) =
    iterator_named Code parts.0 iterators ∷ iterator_named Mode parts.1 iterators ∷ []
used_by_parts iterators true text None = iterator_named Code text iterators ∷ []
used_by_parts iterators false text (Some parts) = iterator_named Mode parts.1 iterators ∷ []
used_by_parts iterators false text None = iterator_named Int text iterators ∷ []

abbrev pub used_by_atom : List FormIterator → Bool → List ℕ → List (Option FormIterator)
used_by_atom iterators is_head text = used_by_parts iterators is_head text (cut 58 text)

-- the first of some at a list's head, the others elsewhere
abbrev pub from_head : {A : Type 0} → Bool → List (Bool → A) → List A
from_head is_head [] = []
from_head is_head (x ∷ xs) = x is_head ∷ from_head false xs

-- what the atoms of a tree use, in the order of the text; whether the tree is the head of a list
abbrev pub uses_step : List FormIterator → Tree-F (Bool → List (Option FormIterator)) → Bool →
    List (Option FormIterator)
uses_step iterators (Tree-F.Atom place text) is_head = used_by_atom iterators is_head text
uses_step iterators (Tree-F.Str place text) is_head = []
uses_step iterators (Tree-F.Block place text) is_head = []
uses_step iterators (Tree-F.List place items) is_head =
    flat_map (λ uses. uses) (from_head true items)
uses_step iterators (Tree-F.Vector place items) is_head =
    flat_map (λ uses. uses) (from_head false items)

abbrev pub uses : List FormIterator → Tree → Bool → List (Option FormIterator)
uses iterators = fold-Tree (Bool → List (Option FormIterator)) (uses_step iterators)

-- the iterators of a form, each once, in the order in which atoms use them first
abbrev pub iterators_of : List FormIterator → Tree → List FormIterator
iterators_of iterators t = fold added [] (uses iterators t false)

-- ---- the choices

abbrev pub with_value : FormIterator → List (List Chosen) → Value → List (List Chosen)
with_value i rest v = map (λ choice. record { iterator = i; value = v } ∷ choice) rest

-- all choices of a value for each iterator: the first varies slowest
abbrev pub choices : List FormIterator → List (List Chosen)
choices [] = [] ∷ []
choices (i ∷ is) = flat_map (with_value i (choices is)) i.values

-- how many there are
abbrev pub choice_count : List FormIterator → ℕ
choice_count [] = 1
choice_count (i ∷ is) = length i.values * choice_count is

-- ---- in the code, which borrows

abbrev pub chosen_of : Choice → Chosen
chosen_of c = record { iterator = c.iterator.now; value = c.value.now }

abbrev pub lent : List (Bor FormIterator) → List FormIterator
lent used = map (λ i. i.now) used
