-- A text with the items that it spells, or a refusal.
use Rattle.std.specs.Prelude.{◌≡◌, ℕ, List, [], ◌++◌, Result, Ok, Err}
use Rattle.rv_text.specs.declared.line.CodeItem.{CodeItem}
use Rattle.asm_out.specs.declared.piece.Piece.{Piece}
use Rattle.pass_refusal.specs.declared.refusal.PassRefusal.{PassRefusal}
use Rattle.pass_refusal.specs.Outcome.{RefusesWith}

abbrev pub Outcome : Type 0
Outcome = Result Piece PassRefusal

-- a text of which nothing is an item
abbrev pub only_text : List ℕ → Piece
only_text text = record { text = text; items = [] }

abbrev pub nothing : Piece
nothing = only_text []

-- a piece and another behind it
abbrev pub joined : Piece → Piece → Piece
joined a b = record { text = a.text ++ b.text; items = a.items ++ b.items }

abbrev pub outcome_behind : Piece → Outcome → Outcome
outcome_behind piece (Ok rest) = Ok (joined piece rest)
outcome_behind piece (Err e) = Err e

-- a call that appended a text and its items, or refused
abbrev pub Appends : {A : Type 0} → List ℕ → List ℕ → List CodeItem → List CodeItem →
    Result A PassRefusal → (Outcome → Type 0) → Type 0
Appends text text' items items' (Ok x) P =
    (piece : Piece) × P (Ok piece) × (text' ≡ text ++ piece.text) × (items' ≡ items ++ piece.items)
Appends text text' items items' (Err e) P = RefusesWith e P
