-- Where something stands, and what is found of it.
use Rattle.std.specs.Prelude.{ℕ, List, ◌++◌, codes}
use Rattle.std.specs.Fmt.{decimal}
use Rattle.rtx_tree.specs.declared.place.Place.{Place}
use Rattle.lint_sentences.specs.declared.kind.Kind.{Kind}
use Rattle.lint_sentences.specs.Kind.{word_of}

-- LINE:COLUMN
abbrev pub place_text : Place → List ℕ
place_text place = decimal place.line ++ (codes ":" ++ decimal place.column)

-- FILE:LINE:COLUMN:, and a space
abbrev pub at_text : List ℕ → Place → List ℕ
at_text file place = file ++ (codes ":" ++ (place_text place ++ codes ": "))

-- KIND NAME
abbrev pub found_text : Kind → List ℕ → List ℕ
found_text kind name = word_of kind ++ (codes " " ++ name)
