-- What holds of an expression as far as it was read.
use Rattle.std.proofs.Common.{◌≡◌, ℕ, ◌≤◌, ◌&&◌, List, [], ◌∷◌, Some, None, option_map, option_and_then, subst, lit<, lit≤}
use Rattle.std.specs.Prelude.{nat_le}
use Rattle.std.specs.List.{AllByRecursion}
use Rattle.std.proofs.lemmas.Bool.{leb-true, and_parts}
use Rattle.md_text.specs.Template.{operand_number}
use Rattle.dfa_ways.specs.declared.token.Mark.{Mark}
use Rattle.dfa_ways.specs.declared.token.Mark.TheVariants as mark
use Rattle.dfa_ways.specs.declared.token.Token.{Token}
use Rattle.dfa_ways.specs.declared.token.Token.TheVariants as token
use Rattle.dfa_ways.specs.declared.level.Level.{Level}
use Rattle.dfa_ways.specs.declared.expression.Read.{Read}
use Rattle.dfa_ways.specs.declared.expression.Read.TheVariants as read
use Rattle.dfa_ways.specs.declared.expression.State.{State}
use Rattle.dfa_ways.specs.Ways.{Ways, no_cycle, one_cycle, repeated}
use Rattle.dfa_ways.specs.Expression.{new_level, units_of, element_of, count_by, count_of, counted, behind_term, whole, with_word, behind_word, term_of, star_behind, behind_star, opened, behind_open, closed, behind_close, behind_sign, behind_mark, behind, behind_all, ended_in, ended, start}
use Rattle.law_ways.specs.Lawful.{AreWays}
use Rattle.law_ways.proofs.JoinedWays.{mapped, led, tested, some_is}
use Rattle.law_ways.proofs.LevelWays.{repeated_ways, IsSound, new_sound, sign_sound, whole_ways, none_some}

-- ---- what was read of a term

abbrev pub IsRead : Read → Type 0
IsRead read.Nothing = Unit {0}
IsRead (read.Element ways) = AreWays ways
IsRead (read.Star ways) = AreWays ways
IsRead (read.Counted ways) = AreWays ways

pub one_cycle_ways : (units : ℕ) → AreWays (one_cycle units)
one_cycle_ways units = record { some = lit< tt; few = lit≤ tt; each = (record { some = lit< tt; short = lit≤ tt }, tt) }

element_ways : (units : List (List ℕ)) (word : List ℕ) (ways : Ways) → element_of units word ≡ Some ways → AreWays ways
unfolding element_of
element_ways units word ways e =
    let made = mapped one_cycle (units_of units word) ways e in
    subst AreWays made.gives (one_cycle_ways made.value)

count_some : (word : List ℕ) (n : ℕ) → count_of word ≡ Some n → 1 ≤ n
unfolding count_of
count_some word n e =
    let number = led count_by (operand_number word) n e in
    let fits = tested (nat_le 1 number.value && nat_le number.value 1000) (Some number.value) n number.gives in
    let same : number.value ≡ n = some_is number.value n fits.gives in
    subst (λ (k : ℕ). 1 ≤ k) same (leb-true 1 number.value (and_parts (nat_le 1 number.value) (nat_le number.value 1000) fits.passed).0)

counted_ways : (word : List ℕ) (ways all : Ways) → AreWays ways → counted word ways ≡ Some all → AreWays all
unfolding counted
counted_ways word ways all are e =
    let times = led (λ count. repeated count no_cycle ways) (count_of word) all e in
    repeated_ways times.value ways all (count_some word times.value times.was) are times.gives

word_read : (units : List (List ℕ)) (r s : Read) (word : List ℕ) → IsRead r → with_word units r word ≡ Some s → IsRead s
unfolding with_word
word_read units read.Nothing s word is e =
    let made = mapped (λ ways. read.Element ways) (element_of units word) s e in
    subst IsRead made.gives (element_ways units word made.value made.was)
word_read units (read.Element ways) s word is e = absurd (none_some s e)
word_read units (read.Star ways) s word is e =
    let made = mapped (λ all. read.Counted all) (counted word ways) s e in
    subst IsRead made.gives (counted_ways word ways made.value is made.was)
word_read units (read.Counted ways) s word is e = absurd (none_some s e)

term_ways : (r : Read) (ways : Ways) → IsRead r → term_of r ≡ Some ways → AreWays ways
term_ways read.Nothing ways is e = absurd (none_some ways e)
term_ways (read.Element w) ways is e = subst AreWays (some_is w ways e) is
term_ways (read.Star w) ways is e = absurd (none_some ways e)
term_ways (read.Counted w) ways is e = subst AreWays (some_is w ways e) is

star_read : (r s : Read) → IsRead r → star_behind r ≡ Some s → IsRead s
star_read read.Nothing s is e = absurd (none_some s e)
star_read (read.Element w) s is e = subst IsRead (some_is (read.Star w) s e) is
star_read (read.Star w) s is e = absurd (none_some s e)
star_read (read.Counted w) s is e = absurd (none_some s e)

-- ---- a state

pub record IsStill (s : State) : Type 0 where
  pub outer : AllByRecursion IsSound s.outer
  pub level : IsSound s.level
  pub read : IsRead s.read

pub start_still : IsStill start
start_still = record { outer = tt; level = new_sound; read = tt }

word_still : (units : List (List ℕ)) (word : List ℕ) (s t : State) → IsStill s → behind_word units word s ≡ Some t → IsStill t
unfolding behind_word
word_still units word s t is e =
    let made = mapped (λ r. record s { read = r }) (with_word units s.read word) t e in
    subst IsStill made.gives (record { outer = is.outer; level = is.level; read = word_read units s.read made.value word is.read made.was })

star_still : (s t : State) → IsStill s → behind_star s ≡ Some t → IsStill t
unfolding behind_star
star_still s t is e =
    let made = mapped (λ r. record s { read = r }) (star_behind s.read) t e in
    subst IsStill made.gives (record { outer = is.outer; level = is.level; read = star_read s.read made.value is.read made.was })

opened_still : (r : Read) (outer : List Level) (l : Level) (t : State) → AllByRecursion IsSound outer → IsSound l → opened r outer l ≡ Some t → IsStill t
opened_still read.Nothing outer l t all sound e =
    subst IsStill (some_is (record { outer = l ∷ outer; level = new_level; read = read.Nothing }) t e) (record { outer = (sound, all); level = new_sound; read = tt })
opened_still (read.Element w) outer l t all sound e = absurd (none_some t e)
opened_still (read.Star w) outer l t all sound e = absurd (none_some t e)
opened_still (read.Counted w) outer l t all sound e = absurd (none_some t e)

open_still : (s t : State) → IsStill s → behind_open s ≡ Some t → IsStill t
unfolding behind_open
open_still s t is e = opened_still s.read s.outer s.level t is.outer is.level e

closed_still : (outer : List Level) (ways : Ways) (t : State) → AllByRecursion IsSound outer → AreWays ways → closed outer ways ≡ Some t → IsStill t
closed_still [] ways t all are e = absurd (none_some t e)
closed_still (l ∷ outer) ways t all are e =
    subst IsStill (some_is (record { outer = outer; level = l; read = read.Element ways }) t e) (record { outer = all.1; level = all.0; read = are })

close_still : (s t : State) → IsStill s → behind_close s ≡ Some t → IsStill t
unfolding behind_close
close_still s t is e =
    let term = led (λ w. option_and_then (closed s.outer) (whole s.level w)) (term_of s.read) t e in
    let ways = led (closed s.outer) (whole s.level term.value) t term.gives in
    closed_still s.outer ways.value t is.outer (whole_ways s.level term.value ways.value is.level (term_ways s.read term.value is.read term.was) ways.was) ways.gives

sign_still : (k : Mark) (s t : State) → IsStill s → behind_sign k s ≡ Some t → IsStill t
unfolding behind_sign
sign_still k s t is e =
    let term = led (λ w. option_map (λ l. record s { level = l; read = read.Nothing }) (behind_term k s.level w)) (term_of s.read) t e in
    let made = mapped (λ l. record s { level = l; read = read.Nothing }) (behind_term k s.level term.value) t term.gives in
    subst IsStill made.gives (record { outer = is.outer; level = sign_sound k s.level made.value term.value is.level (term_ways s.read term.value is.read term.was) made.was; read = tt })

mark_still : (k : Mark) (s t : State) → IsStill s → behind_mark k s ≡ Some t → IsStill t
unfolding behind_mark
mark_still mark.Blank s t is e = subst IsStill (some_is s t e) is
mark_still mark.Comma s t is e = sign_still mark.Comma s t is e
mark_still mark.Bar s t is e = sign_still mark.Bar s t is e
mark_still mark.Plus s t is e = sign_still mark.Plus s t is e
mark_still mark.Star s t is e = star_still s t is e
mark_still mark.Open s t is e = open_still s t is e
mark_still mark.Close s t is e = close_still s t is e

next_still : (units : List (List ℕ)) (s t : State) (k : Token) → IsStill s → behind units s k ≡ Some t → IsStill t
unfolding behind
next_still units s t (token.Mark m) is e = mark_still m s t is e
next_still units s t (token.Word word) is e = word_still units word s t is e

pub all_still : (units : List (List ℕ)) (ks : List Token) (s t : State) → IsStill s → behind_all units s ks ≡ Some t → IsStill t
all_still units [] s t is e = subst IsStill (some_is s t e) is
all_still units (k ∷ ks) s t is e =
    let next = led (λ n. behind_all units n ks) (behind units s k) t e in
    all_still units ks next.value t (next_still units s next.value k is next.was) next.gives

ended_ways : (outer : List Level) (l : Level) (r : Read) (ways : Ways) → IsSound l → IsRead r → ended_in outer l r ≡ Some ways → AreWays ways
ended_ways [] l r ways sound is e =
    let term = led (whole l) (term_of r) ways e in
    whole_ways l term.value ways sound (term_ways r term.value is term.was) term.gives
ended_ways (o ∷ outer) l r ways sound is e = absurd (none_some ways e)

pub end_ways : (s : State) (ways : Ways) → IsStill s → ended s ≡ Some ways → AreWays ways
unfolding ended
end_ways s ways is e = ended_ways s.outer s.level s.read ways is.level is.read e
