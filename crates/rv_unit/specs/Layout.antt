-- Where the lines of a function stand.
use Rattle.std.specs.Prelude.{◌≡◌, ℕ, ◌+◌, Bool, true, false, List, [], ◌∷◌, length, Option, Some, None, option_map, unwrap_or, if◌then◌else◌, map}
use Rattle.long_branches.specs.Branches.{place, ArePlaces, IsLeast}
use Rattle.long_branches.specs.declared.piece.Piece.{Piece}
use Rattle.long_branches.specs.declared.piece.Piece.TheVariants.{Fixed, Branch}
use Rattle.rv_text.specs.declared.line.Line.{Line}
use Rattle.rv_text.specs.declared.line.CodeItem.{CodeItem}
use Rattle.rv_text.specs.declared.line.CodeItem.TheVariants.{Label, Code}
use Rattle.rv_line.specs.Run.{is_label}
use Rattle.rv_word.specs.Sequence.{word_count}
use Rattle.rv_word.specs.declared.spelling.Spelling.{Spelling}
use Rattle.rv_word.specs.declared.spelling.Spelling.TheVariants.{One, Near, Leap, Long, Far}
use Rattle.rv_unit.specs.Names.{spelling_named}
use Rattle.rv_unit.specs.declared.layout.Layout.{Layout}

-- where the first label with a text stands: how many items are before it
abbrev pub label_at : List ℕ → List CodeItem → Option ℕ
label_at target [] = None
label_at target (item ∷ items) =
    if is_label target item then Some 0 else option_map (λ n. n + 1) (label_at target items)

-- the item that a line leads to: its label, or the first one where the label doesn't stand there
abbrev pub leads_to : List CodeItem → List ℕ → ℕ
leads_to items target = unwrap_or (label_at target items) 0

abbrev pub lead_of : List CodeItem → CodeItem → ℕ
lead_of items (Label function uid) = 0
lead_of items (Code line) = leads_to items line.target

-- whether words are those of a branch, which may be short or long
abbrev pub is_branch : Spelling → Bool
is_branch (One op rd rs1 rs2 number) = false
is_branch (Near op rs1 rs2) = true
is_branch Leap = false
is_branch Long = false
is_branch (Far op through) = false

-- A line as a piece of code, by where it leads to. What is no line has no words.
abbrev pub line_piece : Option Spelling → Line → ℕ → Piece
line_piece None line to = Fixed 0
line_piece (Some spelling) line to =
    if is_branch spelling then Branch to else Fixed (word_count spelling line false)

abbrev pub item_piece : CodeItem → ℕ → Piece
item_piece (Label function uid) to = Fixed 0
item_piece (Code line) to = line_piece (spelling_named line.name) line to

-- the pieces of a function's code
abbrev pub pieces_of : List CodeItem → List Piece
pieces_of items = map (λ item. item_piece item (lead_of items item)) items

-- what each item leads to, the least set of long branches, and the place of each item, in words
pub record IsLayout (items : List CodeItem) (layout : Layout) : Type 0 where
  pub leads : layout.leads ≡ map (lead_of items) items
  pub longs : IsLeast (pieces_of items) layout.longs
  pub places : ArePlaces (pieces_of items) layout.longs layout.places
  pub size : layout.size ≡ place (pieces_of items) layout.longs (length items)
