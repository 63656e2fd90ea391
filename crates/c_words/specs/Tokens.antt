-- The tokens of a text of C: "Lexical elements" of the C standard, as far as conditions and
-- statements have them. A run of letters, digits and underscores is one word or number; two bytes
-- may be one operator; blanks only part.
use Rattle.std.specs.Prelude.{ℕ, ◌==◌, nat_le, ◌&&◌, ◌||◌, Bool, true, List, [], ◌∷◌, ◌++◌, Option, Some, None, if◌then◌else◌}
use Rattle.c_words.specs.declared.head.Binary.{Binary}
use Rattle.c_words.specs.declared.head.Binary.TheVariants as binary
use Rattle.c_words.specs.declared.token.Token.{Token}
use Rattle.c_words.specs.declared.token.Token.TheVariants as token
use Rattle.text_words.specs.Blanks.{is_blank}
use Rattle.text_words.specs.Numbers.{c_number_in}

abbrev pub is_digit : ℕ → Bool
is_digit b = nat_le 48 b && nat_le b 57

-- a letter, a digit or an underscore
abbrev pub in_word : ℕ → Bool
in_word b =
    is_digit b || ((nat_le 97 b && nat_le b 122) || ((nat_le 65 b && nat_le b 90) || b == 95))

-- A text in pieces: a blank; a run of letters, digits and underscores, as long as it can be; any
-- other byte.
pub data Piece : Type 0 where
  Blank : Piece
  Run : (run : List ℕ) → Piece
  Byte : (byte : ℕ) → Piece

-- a run before some pieces: it goes on where they begin with one
abbrev pub run_before : List ℕ → List Piece → List Piece
run_before run (Run more ∷ pieces) = Run (run ++ more) ∷ pieces
run_before run pieces = Run run ∷ pieces

abbrev pub pieces : List ℕ → List Piece
pieces [] = []
pieces (b ∷ bs) = if in_word b then run_before (b ∷ []) (pieces bs) else (if is_blank b then Blank ∷ pieces bs else Byte b ∷ pieces bs)

-- the operator that a byte and = are
abbrev pub operator_with_equals : ℕ → Option Binary
operator_with_equals a =
    if a == 61 then Some binary.Equal else
    (if a == 33 then Some binary.Unequal else
    (if a == 60 then Some binary.LessEqual else
    (if a == 62 then Some binary.GreaterEqual else None)))

-- the operator that two bytes are
abbrev pub operator_of_two : ℕ → ℕ → Option Binary
operator_of_two a b =
    if b == 124 then (if a == 124 then Some binary.Or else None) else
    (if b == 38 then (if a == 38 then Some binary.And else None) else
    (if b == 61 then operator_with_equals a else
    (if b == 60 then (if a == 60 then Some binary.ShiftLeft else None) else
    (if b == 62 then (if a == 62 then Some binary.ShiftRight else None) else None))))

-- the token that one byte is
abbrev pub token_of_byte : ℕ → Token
token_of_byte b =
    if b == 124 then token.Operator binary.BitOr else
    (if b == 94 then token.Operator binary.BitXor else
    (if b == 38 then token.Operator binary.BitAnd else
    (if b == 60 then token.Operator binary.Less else
    (if b == 62 then token.Operator binary.Greater else
    (if b == 43 then token.Operator binary.Plus else
    (if b == 45 then token.Operator binary.Minus else
    (if b == 42 then token.Operator binary.Times else token.Mark b)))))))

abbrev pub number_or_bad : Option ℕ → Token
number_or_bad (Some n) = token.Number n
number_or_bad None = token.Bad

-- a run that begins with a digit, or is empty
abbrev pub is_no_word : List ℕ → Bool
is_no_word [] = true
is_no_word (b ∷ bs) = is_digit b

-- the token that a run is: what begins with a digit is a number, or bad
abbrev pub token_of_run : List ℕ → Token
token_of_run run = if is_no_word run then number_or_bad (c_number_in run) else token.Word run

-- the tokens of two bytes that stand side by side, before the tokens that follow both and those
-- that follow the first
abbrev pub side_by_side : Option Binary → ℕ → List Token → List Token → List Token
side_by_side (Some operator) a behind_both behind_first = token.Operator operator ∷ behind_both
side_by_side None a behind_both behind_first = token_of_byte a ∷ behind_first

-- the tokens that pieces are
abbrev pub tokens_of : List Piece → List Token
tokens_of [] = []
tokens_of (Blank ∷ ps) = tokens_of ps
tokens_of (Run run ∷ ps) = token_of_run run ∷ tokens_of ps
tokens_of (Byte a ∷ []) = token_of_byte a ∷ []
tokens_of (Byte a ∷ Byte b ∷ ps) =
    side_by_side (operator_of_two a b) a (tokens_of ps) (tokens_of (Byte b ∷ ps))
tokens_of (Byte a ∷ Blank ∷ ps) = token_of_byte a ∷ tokens_of ps
tokens_of (Byte a ∷ Run run ∷ ps) = token_of_byte a ∷ token_of_run run ∷ tokens_of ps

-- the tokens of a text
abbrev pub tokens_in : List ℕ → List Token
tokens_in text = tokens_of (pieces text)
