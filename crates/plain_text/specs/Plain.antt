-- What `plain` tells of functions: which are of the plain profile, and where another one leaves it.
-- The words are this project's own.
use Rattle.std.specs.Prelude.{◌≡◌, ℕ, List, [], ◌∷◌, ◌++◌, Option, Some, None, Ok, codes}
use Rattle.std.specs.List.{flat_map}
use Rattle.std.specs.Fmt.{decimal}
use Rattle.rtx_tree.specs.declared.function.Function.{Function}
use Rattle.func_input.specs.Outcome.{Outcome}
use Rattle.plain_shape.specs.Plain.{first_outside}

-- plain, or outside UID
abbrev pub standing : Option ℕ → List ℕ
standing None = codes "plain"
standing (Some uid) = codes "outside " ++ decimal uid

-- NAME plain, or NAME outside UID with the uid of the first instruction outside
abbrev pub line_of : Function → List ℕ
line_of f = f.name ++ (codes " " ++ (standing (first_outside f) ++ codes "\n"))

-- a line for each function, in order
abbrev pub text_of : List Function → List ℕ
text_of functions = flat_map line_of functions

-- functions come to their lines
abbrev pub ComeToLines : List Function → Outcome → Type 0
ComeToLines functions outcome = outcome ≡ Ok (text_of functions)
