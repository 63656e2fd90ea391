-- How an expression is cut into tokens, from its front on.
use Rattle.std.specs.Prelude.{ℕ, List, [], ◌∷◌}
use Rattle.dfa_ways.specs.declared.token.Token.{Token}
use Rattle.dfa_ways.specs.declared.token.Token.TheVariants as token
use Rattle.dfa_ways.specs.Tokens.{word_before}

-- a word, if it has a byte
abbrev pub word_alone : List ℕ → List Token
word_alone [] = []
word_alone (b ∷ rest) = token.Word (b ∷ rest) ∷ []

-- the bytes of a word that may go on, before some tokens
abbrev pub pending : List ℕ → List Token → List Token
pending [] ts = ts
pending (b ∷ rest) ts = word_before (b ∷ rest) ts
