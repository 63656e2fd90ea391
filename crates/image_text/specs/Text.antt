-- The text of an image. Its lines are this project's own.
use Rattle.std.specs.Prelude.{ℕ, zero, suc, ◌+◌, ◌-◌, ◌/◌, ◌%◌, false, List, [], ◌∷◌, ◌++◌, codes, take, drop}
use Rattle.std.specs.Fmt.{digit_glyph}
use Rattle.std.specs.List.{flat_map}
use Rattle.rtx_tree.specs.declared.machine.SymbolAt.{SymbolAt}
use Rattle.rv_image.specs.Image.{first_entry}
use Rattle.rv_image.specs.declared.image.Image.{Image}

-- the last so many hexadecimal digits of a number, and those of 32 bits
abbrev pub hex_digits : ℕ → ℕ → List ℕ
hex_digits zero n = []
hex_digits (suc count) n = hex_digits count (n / 16) ++ digit_glyph false (n % 16) ∷ []

unfoldable pub hex : ℕ → List ℕ
hex n = hex_digits 8 n

-- a word behind its address
abbrev pub word_line : ℕ → ℕ → List ℕ
word_line address word = hex address ++ (32 ∷ (hex word ++ 10 ∷ []))

-- words one behind the other from an address on; a word has four bytes
abbrev pub word_lines : ℕ → List ℕ → List ℕ
word_lines address [] = []
word_lines address (word ∷ words) = word_line address word ++ word_lines (address + 4) words

abbrev pub name_line : List ℕ → List ℕ
name_line name = name ++ codes ":\n"

-- how many words stand from one address to another
abbrev pub words_between : ℕ → ℕ → ℕ
words_between from to = (to - from) / 4

-- the words from an address on, and before the word at each entry the name of its function
abbrev pub lines_from : ℕ → List SymbolAt → List ℕ → List ℕ
lines_from address [] words = word_lines address words
lines_from address (entry ∷ entries) words =
    word_lines address (take (words_between address entry.address) words)
    ++ (name_line entry.name ++ lines_from entry.address entries (drop (words_between address entry.address) words))

-- a symbol that is no function, with its address
abbrev pub outside_line : SymbolAt → List ℕ
outside_line symbol = symbol.name ++ (codes " = " ++ (hex symbol.address ++ 10 ∷ []))

-- the words of all functions, and then the symbols outside
abbrev pub image_text : Image → List ℕ
image_text image =
    lines_from first_entry image.entries image.words ++ flat_map outside_line image.outside
