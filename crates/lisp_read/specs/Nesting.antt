-- Which lists and vectors are open.
use Rattle.std.specs.Prelude.{◌≡◌, List, [], ◌∷◌, Option, Some, None, if◌then◌else◌, Bool, true, false}
use Rattle.lisp_read.specs.declared.class.Bracket.{Bracket}
use Rattle.lisp_read.specs.declared.class.Bracket.TheVariants.{Round, Square}
use Rattle.lisp_read.specs.Part.{Part, Open, Close}

abbrev pub same_kind : Bracket → Bracket → Bool
same_kind Round Round = true
same_kind Square Square = true
same_kind _ _ = false

-- The lists and vectors that are still open after these parts, the innermost first, where those
-- given were open before. None where a bracket closes what it did not open.
abbrev pub still_open : List Bracket → List Part → Option (List Bracket)
still_open within [] = Some within
still_open within (Open kind place ∷ parts) = still_open (kind ∷ within) parts
still_open [] (Close kind ∷ parts) = None
still_open (innermost ∷ within) (Close kind ∷ parts) =
    if same_kind innermost kind then still_open within parts else None
still_open within (_ ∷ parts) = still_open within parts

-- each list and vector is closed as it was opened
abbrev pub IsNested : List Part → Type 0
IsNested parts = still_open [] parts ≡ Some []
