-- What `<..>` stands for under a choice of values: GCC Internals, "Iterators", "Substitutions".
use Rattle.std.specs.Prelude.{ℕ, ◌&&◌, List, [], ◌∷◌, Option, Some, None, if◌then◌else◌, map, option_map, option_and_then, codes}
use Rattle.std.specs.List.{find}
use Rattle.std.specs.Char.{to_ascii_lowercase, to_ascii_uppercase}
use Rattle.std.specs.Str.{bytes_eq}
use Rattle.md_iter.specs.declared.attribute.Filling.{Filling}
use Rattle.md_iter.specs.declared.attribute.Filling.TheVariants.{Written, Capitals, Small}
use Rattle.md_iter.specs.declared.definition.DefinitionKind.{DefinitionKind}
use Rattle.md_iter.specs.declared.definition.DefinitionKind.TheVariants.{Mode, Code, Int}
use Rattle.md_iter.specs.declared.definition.Entry.{Entry}
use Rattle.md_iter.specs.declared.definition.IteratorAttribute.{IteratorAttribute}
use Rattle.md_iter.specs.declared.definition.Definitions.{Definitions}
use Rattle.text_words.specs.Cut.{cut}
use Rattle.md_iter.specs.Definition.{same_kind, either}
use Rattle.md_iter.specs.Choice.{Chosen}

abbrev pub capitals : List ℕ → List ℕ
capitals text = map to_ascii_uppercase text

abbrev pub small : List ℕ → List ℕ
small text = map to_ascii_lowercase text

-- the text that a filling of the code is
abbrev pub filled_with : Filling → List ℕ
filled_with (Written bytes) = bytes.now
filled_with (Capitals bytes) = capitals bytes.now
filled_with (Small bytes) = small bytes.now

abbrev pub cased : List ℕ → List ℕ → List ℕ → List ℕ → Option (List ℕ)
cased name in_capitals in_small value = if bytes_eq name in_capitals then Some (capitals value)
    else if bytes_eq name in_small then Some (small value)
    else None

-- MODE and mode, or CODE and code, are the value's name in capitals and in small letters
abbrev pub built_in : DefinitionKind → List ℕ → List ℕ → Option (List ℕ)
built_in Mode name value = cased name (codes "MODE") (codes "mode") value
built_in Code name value = cased name (codes "CODE") (codes "code") value
built_in Int name value = None

-- the first entry for a value
abbrev pub entry_for : List ℕ → List Entry → Option (List ℕ)
entry_for value entries = option_map (λ e. e.text) (find (λ e. bytes_eq e.value value) entries)

-- the first attribute of a kind and a name
abbrev pub attribute_named : DefinitionKind → List ℕ → List IteratorAttribute →
    Option IteratorAttribute
attribute_named kind name attributes =
    find (λ a. same_kind a.kind kind && bytes_eq a.name name) attributes

abbrev pub defined : Definitions → DefinitionKind → List ℕ → List ℕ → Option (List ℕ)
defined definitions kind name value = option_and_then (λ a. entry_for value a.entries) (attribute_named kind name definitions.attributes)

-- what an attribute is at the value of one iterator
abbrev pub at_value : Definitions → List ℕ → Chosen → Option (List ℕ)
at_value definitions name c = either (built_in c.iterator.kind name c.value.name) (defined definitions c.iterator.kind name c.value.name)

-- the first that there is of some
abbrev pub first_of : {A : Type 0} → (A → Option (List ℕ)) → List A → Option (List ℕ)
first_of read [] = None
first_of read (x ∷ xs) = either (read x) (first_of read xs)

-- <NAME>: the attribute of the first iterator that has it at its value
abbrev pub of_any : Definitions → List ℕ → List Chosen → Option (List ℕ)
of_any definitions name choice = first_of (at_value definitions name) choice

abbrev pub at_named : Definitions → List ℕ → List ℕ → Chosen → Option (List ℕ)
at_named definitions iterator name c =
    if bytes_eq c.iterator.name iterator then at_value definitions name c else None

-- <ITERATOR:NAME>: the attribute of this iterator
abbrev pub of_one : Definitions → List ℕ → List ℕ → List Chosen → Option (List ℕ)
of_one definitions iterator name choice = first_of (at_named definitions iterator name) choice

abbrev pub by_parts : Definitions → List Chosen → List ℕ → Option (List ℕ × List ℕ) →
    Option (List ℕ)
by_parts definitions choice text (Some parts) = of_one definitions parts.0 parts.1 choice
by_parts definitions choice text None = of_any definitions text choice

-- what stands for the text between < and >, if anything does
abbrev pub filling : Definitions → List Chosen → List ℕ → Option (List ℕ)
filling definitions choice text = by_parts definitions choice text (cut 58 text)
