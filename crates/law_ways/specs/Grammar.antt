-- The grammar of the expression of a reservation: GCC Internals, "Specifying processor pipeline
-- description". An expression is `oneof`s between commas, a `oneof` is `allof`s between bars, an
-- `allof` is `repeat`s between pluses, a `repeat` is an element, which may have a star and a number
-- behind it, and an element is the name of a unit, the word nothing, or an expression in parentheses.
-- A phrase has ways, by those of its parts. Blanks stand between words as they like.
use Rattle.std.specs.Prelude.{◌≡◌, ℕ, Bool, true, false, List, [], ◌∷◌, ◌++◌, Some, filter}
use Rattle.dfa_ways.specs.declared.way.Joint.TheVariants as joint
use Rattle.dfa_ways.specs.declared.token.Mark.TheVariants as mark
use Rattle.dfa_ways.specs.declared.token.Token.{Token}
use Rattle.dfa_ways.specs.declared.token.Token.TheVariants as token
use Rattle.dfa_ways.specs.Tokens.{tokens}
use Rattle.dfa_ways.specs.Ways.{Ways, all_joined, one_of}
use Rattle.dfa_ways.specs.Expression.{element_of, counted, ways_of}

-- the kinds of phrases, by the names that the manual gives them
pub data Phrase : Type 0 where
  Regexp : Phrase
  Oneof : Phrase
  Allof : Phrase
  Repeat : Phrase
  Element : Phrase

-- some tokens are a phrase of a kind, over some units, and have these ways
pub data Derives (units : List (List ℕ)) : Phrase → List Token → Ways → Type 0 where
  unit : {ways : Ways} (word : List ℕ) → element_of units word ≡ Some ways →
      Derives units Element (token.Word word ∷ []) ways
  inner : {ts : List Token} {ways : Ways} → Derives units Regexp ts ways →
      Derives units Element (token.Mark mark.Open ∷ (ts ++ token.Mark mark.Close ∷ [])) ways
  once : {ts : List Token} {ways : Ways} → Derives units Element ts ways → Derives units Repeat ts ways
  times : {ts : List Token} {ways all : Ways} (word : List ℕ) → Derives units Element ts ways →
      counted word ways ≡ Some all →
      Derives units Repeat (ts ++ token.Mark mark.Star ∷ token.Word word ∷ []) all
  one_repeat : {ts : List Token} {ways : Ways} → Derives units Repeat ts ways → Derives units Allof ts ways
  more_repeats : {ts us : List Token} {a b all : Ways} → Derives units Allof ts a → Derives units Repeat us b →
      all_joined joint.AtOnce a b ≡ Some all →
      Derives units Allof (ts ++ token.Mark mark.Plus ∷ us) all
  one_allof : {ts : List Token} {ways : Ways} → Derives units Allof ts ways → Derives units Oneof ts ways
  more_allofs : {ts us : List Token} {a b all : Ways} → Derives units Oneof ts a → Derives units Allof us b →
      one_of a b ≡ Some all →
      Derives units Oneof (ts ++ token.Mark mark.Bar ∷ us) all
  one_oneof : {ts : List Token} {ways : Ways} → Derives units Oneof ts ways → Derives units Regexp ts ways
  more_oneofs : {ts us : List Token} {a b all : Ways} → Derives units Regexp ts a → Derives units Oneof us b →
      all_joined joint.Behind a b ≡ Some all →
      Derives units Regexp (ts ++ token.Mark mark.Comma ∷ us) all

abbrev pub is_said : Token → Bool
is_said (token.Mark mark.Blank) = false
is_said _ = true

-- the tokens of a text that are no blanks
abbrev pub said : List ℕ → List Token
said text = filter is_said (tokens text)

-- whatever ways an expression has, the grammar derives them
abbrev pub AreDerived : Type 0
AreDerived = (units : List (List ℕ)) (text : List ℕ) (ways : Ways) → ways_of units text ≡ Some ways →
    Derives units Regexp (said text) ways
