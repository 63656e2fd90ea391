-- The tokens of the expression of a reservation: GCC Internals, "Specifying processor pipeline
-- description". A word is a run of bytes of which none is a mark; blanks only part words.
use Rattle.std.specs.Prelude.{ℕ, ◌==◌, List, [], ◌∷◌, ◌++◌, Option, Some, None, if◌then◌else◌}
use Rattle.text_words.specs.Blanks.{is_blank}
use Rattle.dfa_ways.specs.declared.token.Mark.{Mark}
use Rattle.dfa_ways.specs.declared.token.Mark.TheVariants as mark
use Rattle.dfa_ways.specs.declared.token.Token.{Token}
use Rattle.dfa_ways.specs.declared.token.Token.TheVariants as token

-- , | + * ( ) and blanks
unfoldable pub mark_of : ℕ → Option Mark
mark_of b = if b == 44 then Some mark.Comma
    else if b == 124 then Some mark.Bar
    else if b == 43 then Some mark.Plus
    else if b == 42 then Some mark.Star
    else if b == 40 then Some mark.Open
    else if b == 41 then Some mark.Close
    else if is_blank b then Some mark.Blank
    else None

-- a word before some tokens: it goes on where they begin with one
abbrev pub word_before : List ℕ → List Token → List Token
word_before word (token.Word more ∷ ts) = token.Word (word ++ more) ∷ ts
word_before word ts = token.Word word ∷ ts

-- a byte before some tokens, which may be a mark
abbrev pub byte_before : Option Mark → ℕ → List Token → List Token
byte_before (Some m) b ts = token.Mark m ∷ ts
byte_before None b ts = word_before (b ∷ []) ts

abbrev pub tokens : List ℕ → List Token
tokens [] = []
tokens (b ∷ rest) = byte_before (mark_of b) b (tokens rest)
