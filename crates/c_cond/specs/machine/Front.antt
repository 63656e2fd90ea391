-- How far a text goes on as some text of the grammar does, one byte after the other. Only private
-- clauses and proofs speak of it: where a text stops being one, is said in Beginning.
use Rattle.std.specs.Prelude.{ℕ, suc, Bool, true, false, ◌&&◌, ◌||◌, List, [], ◌∷◌, ◌++◌, Option, Some, None, if◌then◌else◌, option_and_then, take, drop, length, is_some}
use Rattle.std.specs.Str.{bytes_eq}
use Rattle.std.specs.List.{list_all, list_any}
use Rattle.rtx_tree.specs.declared.constants.Constant.{Constant}
use Rattle.c_words.specs.declared.head.Binary.{Binary}
use Rattle.c_words.specs.declared.atom.Dialect.{Dialect}
use Rattle.c_words.specs.declared.token.Token.{Token}
use Rattle.c_words.specs.declared.token.Token.TheVariants as token
use Rattle.c_cond.specs.declared.goal.Goal.{Goal}
use Rattle.c_cond.specs.declared.parser.Parser.{Parser}
use Rattle.c_words.specs.declared.lexer.Pending.{Pending}
use Rattle.c_words.specs.declared.lexer.Pending.TheVariants as pending
use Rattle.c_words.specs.declared.lexer.Lexer.{Lexer}
use Rattle.c_words.specs.Tokens.{in_word, token_of_run, token_of_byte, operator_of_two}
use Rattle.c_words.specs.machine.Lexing.{read_in}
use Rattle.c_cond.specs.machine.Steps.{takes, passed, run}

-- whether some goal takes the token, where those before it may be passed over
abbrev pub is_taken : Dialect → List Constant → Token → List Goal → Bool
is_taken d cs t [] = false
is_taken d cs t (g ∷ gs) = is_some (takes d cs g t []) || (is_some (passed g) && is_taken d cs t gs)

-- ---- words that a run may become

-- whether a run that begins a word may go on as the word
abbrev pub goes_on_as : List ℕ → List ℕ → Bool
goes_on_as run word =
    bytes_eq (take (length run) word) run && list_all in_word (drop (length run) word)

abbrev pub run_taken : Dialect → List Constant → List Goal → List ℕ → Bool
run_taken d cs gs run = is_taken d cs (token_of_run run) gs

-- whether a run may go on as a word that is taken
abbrev pub word_taken : Dialect → List Constant → List Goal → List ℕ → List ℕ → Bool
word_taken d cs gs run word = goes_on_as run word && run_taken d cs gs word

-- Whether a run is taken as it is, or with more behind it. A zero behind it makes a name that is
-- not known, and a number of 0x.
abbrev pub run_goes_on : Dialect → List Constant → List (List ℕ) → List Goal → List ℕ → Bool
run_goes_on d cs words gs run =
    run_taken d cs gs run ||
    (run_taken d cs gs (run ++ 48 ∷ []) || list_any (word_taken d cs gs run) words)

-- ---- operators that a byte may become

-- the bytes that may be the second of an operator
abbrev pub second_bytes : List ℕ
second_bytes = 124 ∷ 38 ∷ 61 ∷ 60 ∷ 62 ∷ []

abbrev pub operator_taken : Dialect → List Constant → List Goal → Option Binary → Bool
operator_taken d cs gs None = false
operator_taken d cs gs (Some operator) = is_taken d cs (token.Operator operator) gs

abbrev pub byte_goes_on : Dialect → List Constant → List Goal → ℕ → Bool
byte_goes_on d cs gs a =
    is_taken d cs (token_of_byte a) gs ||
    list_any (λ b. operator_taken d cs gs (operator_of_two a b)) second_bytes

-- ---- bytes

-- whether what is pending may go on as a token that is taken
abbrev pub goes_on : Dialect → List Constant → List (List ℕ) → List Goal → Pending → Bool
goes_on d cs words gs pending.Nothing = true
goes_on d cs words gs (pending.Run run) = run_goes_on d cs words gs run
goes_on d cs words gs (pending.Byte a) = byte_goes_on d cs gs a

abbrev pub if_goes_on : Dialect → List Constant → List (List ℕ) → Pending → Parser → Option Parser
if_goes_on d cs words pending p = if goes_on d cs words p.goals pending then Some p else None

-- behind tokens, where what is pending may go on
abbrev pub kept : Dialect → List Constant → List (List ℕ) → Parser → Lexer → Option Parser
kept d cs words p l = option_and_then (if_goes_on d cs words l.pending) (run d cs p l.tokens)

abbrev pub one_more : Option Parser → (Parser → ℕ) → ℕ
one_more None rest = 0
one_more (Some p) rest = suc (rest p)

-- how many of these bytes go on as a text does
unfoldable pub reach : Dialect → List Constant → List (List ℕ) → Parser → Pending → List ℕ → ℕ
reach d cs words p pending [] = 0
reach d cs words p pending (b ∷ bs) = one_more (kept d cs words p (read_in [] pending b)) (λ q. reach d cs words q (read_in [] pending b).pending bs)
