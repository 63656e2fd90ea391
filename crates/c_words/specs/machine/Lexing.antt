-- The lexer's own steps, one byte after the other. Only private clauses and proofs speak of them:
-- what the tokens of a text are, is said in Tokens.
use Rattle.std.specs.Prelude.{ℕ, List, [], ◌∷◌, ◌++◌, Option, Some, None, if◌then◌else◌}
use Rattle.c_words.specs.declared.head.Binary.{Binary}
use Rattle.c_words.specs.declared.token.Token.{Token}
use Rattle.c_words.specs.declared.token.Token.TheVariants as token
use Rattle.c_words.specs.declared.lexer.Pending.{Pending}
use Rattle.c_words.specs.declared.lexer.Pending.TheVariants as pending
use Rattle.c_words.specs.declared.lexer.Lexer.{Lexer}
use Rattle.text_words.specs.Blanks.{is_blank}
use Rattle.c_words.specs.Tokens.{in_word, token_of_run, token_of_byte, operator_of_two}

abbrev pub at : List Token → Pending → Lexer
at tokens p = record { tokens = tokens; pending = p }

-- behind a byte that begins a piece
abbrev pub begun : List Token → ℕ → Lexer
begun tokens b = if in_word b then at tokens (pending.Run (b ∷ [])) else (if is_blank b then at tokens pending.Nothing else at tokens (pending.Byte b))

abbrev pub behind_run : List Token → List ℕ → ℕ → Lexer
behind_run tokens run b = if in_word b then at tokens (pending.Run (run ++ b ∷ [])) else begun (tokens ++ token_of_run run ∷ []) b

abbrev pub behind_two : List Token → ℕ → ℕ → Option Binary → Lexer
behind_two tokens a b (Some operator) = at (tokens ++ token.Operator operator ∷ []) pending.Nothing
behind_two tokens a b None = begun (tokens ++ token_of_byte a ∷ []) b

abbrev pub read_in : List Token → Pending → ℕ → Lexer
read_in tokens pending.Nothing b = begun tokens b
read_in tokens (pending.Run run) b = behind_run tokens run b
read_in tokens (pending.Byte a) b = behind_two tokens a b (operator_of_two a b)

-- behind the next byte
abbrev pub read_byte : Lexer → ℕ → Lexer
read_byte l b = read_in l.tokens l.pending b

-- the token that ends with the text
abbrev pub last_token : Pending → List Token
last_token pending.Nothing = []
last_token (pending.Run run) = token_of_run run ∷ []
last_token (pending.Byte a) = token_of_byte a ∷ []

-- all the tokens, where these bytes are left
abbrev pub read_all : Lexer → List ℕ → List Token
read_all l [] = l.tokens ++ last_token l.pending
read_all l (b ∷ bs) = read_all (read_byte l b) bs
