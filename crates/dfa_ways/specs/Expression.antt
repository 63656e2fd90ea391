-- The ways that the expression of a reservation writes: GCC Internals, "Specifying processor pipeline
-- description". Parts follow one another behind commas, a part is one of its choices between bars, a
-- choice takes its terms between pluses at once, and a term is an element, which may have a star and
-- a count behind it. An element is the name of a unit, the word nothing, or an expression in
-- parentheses. The tokens are read one by one, so that parentheses may stand as deep as they like.
use Rattle.std.specs.Prelude.{ℕ, ◌^◌, nat_le, nat_lt, ◌&&◌, List, [], ◌∷◌, Option, Some, None, if◌then◌else◌, codes, position, option_map, option_and_then}
use Rattle.std.specs.Str.{bytes_eq}
use Rattle.md_text.specs.Template.{operand_number}
use Rattle.dfa_ways.specs.declared.way.Joint.TheVariants as joint
use Rattle.dfa_ways.specs.declared.token.Mark.{Mark}
use Rattle.dfa_ways.specs.declared.token.Mark.TheVariants as mark
use Rattle.dfa_ways.specs.declared.token.Token.{Token}
use Rattle.dfa_ways.specs.declared.token.Token.TheVariants as token
use Rattle.dfa_ways.specs.declared.level.Level.{Level}
use Rattle.dfa_ways.specs.declared.expression.Read.{Read}
use Rattle.dfa_ways.specs.declared.expression.Read.TheVariants as read
use Rattle.dfa_ways.specs.declared.expression.State.{State}
use Rattle.dfa_ways.specs.Tokens.{tokens}
use Rattle.rtx_tree.specs.Limit.{most_units, most_times}
use Rattle.dfa_ways.specs.Ways.{Ways, no_cycle, one_cycle, all_joined, one_of, repeated}

-- ---- words

-- the first unit of a name
abbrev pub unit_named : List (List ℕ) → List ℕ → Option ℕ
unit_named units word = position (λ unit. bytes_eq unit word) units

-- the set of one unit
abbrev pub unit_at : ℕ → Option ℕ
unit_at place = if nat_lt place most_units then Some (2 ^ place) else None

-- the set of units that a word takes
unfoldable pub units_of : List (List ℕ) → List ℕ → Option ℕ
units_of units word =
    if bytes_eq word (codes "nothing") then Some 0 else option_and_then unit_at (unit_named units word)

unfoldable pub element_of : List (List ℕ) → List ℕ → Option Ways
element_of units word = option_map one_cycle (units_of units word)

abbrev pub count_by : ℕ → Option ℕ
count_by n = if nat_le 1 n && nat_le n most_times then Some n else None

-- the number that a word writes, from 1 to 1,000
unfoldable pub count_of : List ℕ → Option ℕ
count_of word = option_and_then count_by (operand_number word)

unfoldable pub counted : List ℕ → Ways → Option Ways
counted word ways = option_and_then (λ count. repeated count no_cycle ways) (count_of word)

-- ---- an expression up to its last term

abbrev pub new_level : Level
new_level = record { parts = no_cycle; choices = []; terms = no_cycle }

unfoldable pub with_term : Level → Ways → Option Level
with_term l term = option_map (λ ways. record l { terms = ways }) (all_joined joint.AtOnce l.terms term)

unfoldable pub with_choice : Level → Option Level
with_choice l = option_map (λ ways. record l { choices = ways; terms = no_cycle }) (one_of l.choices l.terms)

unfoldable pub with_part : Level → Option Level
with_part l = option_map (λ ways. record l { parts = ways; choices = [] }) (all_joined joint.Behind l.parts l.choices)

-- a term and a bar
unfoldable pub behind_bar : Level → Ways → Option Level
behind_bar l term = option_and_then with_choice (with_term l term)

-- a term and a comma
unfoldable pub behind_comma : Level → Ways → Option Level
behind_comma l term = option_and_then with_part (behind_bar l term)

unfoldable pub behind_term : Mark → Level → Ways → Option Level
behind_term mark.Plus l term = with_term l term
behind_term mark.Bar l term = behind_bar l term
behind_term mark.Comma l term = behind_comma l term
behind_term _ l term = None

-- the last term
unfoldable pub whole : Level → Ways → Option Ways
whole l term = option_map (λ m. m.parts) (behind_comma l term)

-- ---- the next token

abbrev pub start : State
start = record { outer = []; level = new_level; read = read.Nothing }

-- an element or a count
unfoldable pub with_word : List (List ℕ) → Read → List ℕ → Option Read
with_word units read.Nothing word = option_map (λ ways. read.Element ways) (element_of units word)
with_word units (read.Star ways) word = option_map (λ all. read.Counted all) (counted word ways)
with_word units _ word = None

unfoldable pub behind_word : List (List ℕ) → List ℕ → State → Option State
behind_word units word s = option_map (λ r. record s { read = r }) (with_word units s.read word)

abbrev pub term_of : Read → Option Ways
term_of (read.Element ways) = Some ways
term_of (read.Counted ways) = Some ways
term_of _ = None

abbrev pub star_behind : Read → Option Read
star_behind (read.Element ways) = Some (read.Star ways)
star_behind _ = None

unfoldable pub behind_star : State → Option State
behind_star s = option_map (λ r. record s { read = r }) (star_behind s.read)

-- an expression within an expression
abbrev pub opened : Read → List Level → Level → Option State
opened read.Nothing outer l = Some (record { outer = l ∷ outer; level = new_level; read = read.Nothing })
opened _ outer l = None

unfoldable pub behind_open : State → Option State
behind_open s = opened s.read s.outer s.level

-- its ways are those of an element
abbrev pub closed : List Level → Ways → Option State
closed [] ways = None
closed (l ∷ outer) ways = Some (record { outer = outer; level = l; read = read.Element ways })

unfoldable pub behind_close : State → Option State
behind_close s = option_and_then (λ term. option_and_then (closed s.outer) (whole s.level term)) (term_of s.read)

unfoldable pub behind_sign : Mark → State → Option State
behind_sign m s = option_and_then (λ term. option_map (λ l. record s { level = l; read = read.Nothing }) (behind_term m s.level term)) (term_of s.read)

unfoldable pub behind_mark : Mark → State → Option State
behind_mark mark.Blank s = Some s
behind_mark mark.Star s = behind_star s
behind_mark mark.Open s = behind_open s
behind_mark mark.Close s = behind_close s
behind_mark mark.Comma s = behind_sign mark.Comma s
behind_mark mark.Bar s = behind_sign mark.Bar s
behind_mark mark.Plus s = behind_sign mark.Plus s

unfoldable pub behind : List (List ℕ) → State → Token → Option State
behind units s (token.Mark m) = behind_mark m s
behind units s (token.Word word) = behind_word units word s

-- ---- all tokens

abbrev pub behind_all : List (List ℕ) → State → List Token → Option State
behind_all units s [] = Some s
behind_all units s (t ∷ ts) = option_and_then (λ next. behind_all units next ts) (behind units s t)

abbrev pub ended_in : List Level → Level → Read → Option Ways
ended_in [] l r = option_and_then (whole l) (term_of r)
ended_in (o ∷ outer) l r = None

unfoldable pub ended : State → Option Ways
ended s = ended_in s.outer s.level s.read

-- the ways that a text writes over some units; none where it is no expression, where a unit is taken
-- twice in a cycle, and where there are more ways or cycles than there may be
unfoldable pub ways_of : List (List ℕ) → List ℕ → Option Ways
ways_of units text = option_and_then ended (behind_all units start (tokens text))
