-- Why a template is wrong, in a sentence: a line that is none, what differs, or what is asked for.
-- Lines of a template are counted from 1.
use Rattle.std.specs.Prelude.{ℕ, ◌+◌, List, ◌++◌, codes, if◌then◌else◌}
use Rattle.std.specs.Fmt.{decimal}
use Rattle.std.specs.Str.{bytes_eq}
use Rattle.rtx_tree.specs.Registers.{register_text}
use Rattle.term_text.specs.declared.item.Item.{Item}
use Rattle.term_text.specs.declared.item.Item.TheVariants as item
use Rattle.term_text.specs.Item.{item_text}

-- what is wrong with a line, and its text
abbrev pub told_line : List ℕ → List ℕ → List ℕ
told_line words text =
    codes " of the template " ++ (words ++ (codes ": \"" ++ (text ++ codes "\"")))

-- a line of a template, what is wrong with it, and its text
abbrev pub line_text : ℕ → List ℕ → List ℕ → List ℕ
line_text place words text = codes "line " ++ (decimal (place + 1) ++ told_line words text)

-- the lines leave alone what the instruction changes
abbrev pub left_alone : ℕ → List ℕ → List ℕ
left_alone reg left = codes "the lines leave " ++ (register_text reg ++ (codes " as it was; the instruction makes " ++ left))

-- the lines change what the instruction leaves alone
abbrev pub made_text : List ℕ → List ℕ
made_text right = codes ", which the instruction leaves alone (no clobber says so): they make " ++ right

abbrev pub changed : ℕ → List ℕ → List ℕ
changed reg right = codes "the lines change " ++ (register_text reg ++ made_text right)

-- what both sides make of something
abbrev pub right_text : List ℕ → List ℕ
right_text right = codes ", by the lines " ++ right

abbrev pub both_text : List ℕ → List ℕ → List ℕ
both_text left right = codes ": by the instruction " ++ (left ++ right_text right)

abbrev pub sides_text : List ℕ → List ℕ → List ℕ → List ℕ
sides_text subject left right = subject ++ both_text left right

-- a side that is the register itself leaves it as it was
abbrev pub register_difference : ℕ → List ℕ → List ℕ → List ℕ
register_difference reg left right =
    if bytes_eq right (register_text reg) then left_alone reg left
    else if bytes_eq left (register_text reg) then changed reg right
    else sides_text (register_text reg) left right

-- in which item the texts of two sides differ
abbrev pub difference_text : Item → List ℕ → List ℕ → List ℕ
difference_text (item.Register reg) left right = register_difference reg left right
difference_text item.Jump left right = sides_text (codes "where it leads") left right
difference_text item.Call left right = sides_text (codes "what is called") left right
difference_text i left right = sides_text (item_text i) left right

-- the lines ask for what the instruction doesn't
abbrev pub unasked_text : List ℕ → List ℕ
unasked_text term = term ++ codes ", the instruction doesn't"

abbrev pub need_text : List ℕ → List ℕ
need_text term = codes "the lines read " ++ unasked_text term
