-- What holds of an expression up to its last term.
use Rattle.std.proofs.Common.{◌≡◌, ℕ, zero, suc, ◌+◌, ◌*◌, ◌<◌, ◌≤◌, [], ◌∷◌, ◌++◌, Some, None, length, sym, ap, subst, ◌∙◌, lit<, lit≤, arith}
use Rattle.std.specs.Prelude.{nat_le}
use Rattle.std.specs.List.{AllByRecursion}
use Rattle.std.proofs.lemmas.Bool.{leb-true}
use Rattle.std.proofs.lemmas.List.{length-append}
use Rattle.dfa_ways.specs.declared.way.Joint.{Joint}
use Rattle.dfa_ways.specs.declared.way.Joint.TheVariants as joint
use Rattle.dfa_ways.specs.declared.token.Mark.{Mark}
use Rattle.dfa_ways.specs.declared.token.Mark.TheVariants as mark
use Rattle.dfa_ways.specs.declared.level.Level.{Level}
use Rattle.dfa_ways.specs.Ways.{Way, Ways, no_cycle, joined, all_joined, one_of, repeated}
use Rattle.dfa_ways.specs.Expression.{new_level, with_term, with_choice, with_part, behind_bar, behind_comma, behind_term, whole}
use Rattle.law_ways.specs.Lawful.{IsWay, AreWays}
use Rattle.law_ways.proofs.JoinedWays.{mapped, led, tested, some_is, IsJoined, is_joined, all_append, all_joined_all, all_joined_count}

abbrev pub IsShort : Way → Type 0
IsShort x = length x ≤ 64

-- there is a way, and not too many, of any length that a way may have
pub record AreShort (ways : Ways) : Type 0 where
  pub some : 0 < length ways
  pub few : length ways ≤ 64
  pub each : AllByRecursion IsShort ways

all_short : (ways : Ways) → AllByRecursion IsWay ways → AllByRecursion IsShort ways
all_short [] all = tt
all_short (x ∷ ways) all = (all.0.short, all_short ways all.1)

pub are_short : (ways : Ways) → AreWays ways → AreShort ways
are_short ways are = record { some = are.some; few = are.few; each = all_short ways are.each }

pub no_cycle_short : AreShort no_cycle
no_cycle_short = record { some = lit< tt; few = lit≤ tt; each = (lit≤ tt, tt) }

step : (how : Joint) (x y z : Way) → IsShort x → IsWay y → joined how x y ≡ Some z → IsWay z
step how x y z short is e =
    let all : IsJoined x y z = is_joined how x y z e in
    let some : 0 < length y = is.some in
    let second : length y ≤ length z = all.second in
    record { some = omega arith; short = all.short short is.short }

positive : (n a b : ℕ) → n ≡ a * b → 0 < a → 0 < b → 0 < n
positive n zero b e h k = absurd (omega arith)
positive n (suc a) zero e h k = absurd (omega arith)
positive n (suc a) (suc b) e h k = grind arith

-- some ways, and others behind them or at once with them
pub joined_ways : (how : Joint) (a b c : Ways) → AreShort a → AreWays b → all_joined how a b ≡ Some c → AreWays c
joined_ways how a b c short are e =
    let count = all_joined_count how a b c e in
    record {
      some = positive (length c) (length a) (length b) count.0 short.some are.some;
      few = count.1;
      each = all_joined_all how IsShort IsWay IsWay (step how) a b c short.each are.each e;
    }

-- the same ways again
again : (n : ℕ) (front ways all : Ways) → AreWays front → AreWays ways → repeated n front ways ≡ Some all → AreWays all
again zero front ways all first are e = subst AreWays (some_is front all e) first
again (suc n) front ways all first are e =
    let more = led (λ longer. repeated n longer ways) (all_joined joint.Behind front ways) all e in
    again n more.value ways all (joined_ways joint.Behind front ways more.value (are_short front first) are more.was) are more.gives

pub repeated_ways : (n : ℕ) (ways all : Ways) → 1 ≤ n → AreWays ways → repeated n no_cycle ways ≡ Some all → AreWays all
repeated_ways zero ways all some are e = absurd (omega arith)
repeated_ways (suc n) ways all some are e =
    let more = led (λ longer. repeated n longer ways) (all_joined joint.Behind no_cycle ways) all e in
    again n more.value ways all (joined_ways joint.Behind no_cycle ways more.value no_cycle_short are more.was) are more.gives

-- ---- a level

pub record IsSound (l : Level) : Type 0 where
  pub parts : AreShort l.parts
  pub terms : AreShort l.terms
  pub few : length l.choices ≤ 64
  pub choices : AllByRecursion IsWay l.choices

pub new_sound : IsSound new_level
new_sound = record { parts = no_cycle_short; terms = no_cycle_short; few = lit≤ tt; choices = tt }

-- with a term, the terms are ways
pub record HasTerms (l : Level) : Type 0 where
  pub sound : IsSound l
  pub terms : AreWays l.terms

pub term_sound : (l m : Level) (term : Ways) → IsSound l → AreWays term → with_term l term ≡ Some m → HasTerms m
unfolding with_term
term_sound l m term sound are e =
    let made = mapped (λ ways. record l { terms = ways }) (all_joined joint.AtOnce l.terms term) m e in
    let ways : AreWays made.value = joined_ways joint.AtOnce l.terms term made.value sound.terms are made.was in
    subst HasTerms made.gives (record { sound = record { parts = sound.parts; terms = are_short made.value ways; few = sound.few; choices = sound.choices }; terms = ways })

pub record HasChoices (l : Level) : Type 0 where
  pub sound : IsSound l
  pub choices : AreWays l.choices

choice_sound : (l m : Level) → HasTerms l → with_choice l ≡ Some m → HasChoices m
unfolding with_choice one_of
choice_sound l m has e =
    let made = mapped (λ ways. record l { choices = ways; terms = no_cycle }) (one_of l.choices l.terms) m e in
    let fits = tested (nat_le (length l.choices + length l.terms) 64) (Some (l.choices ++ l.terms)) made.value made.was in
    let same : l.choices ++ l.terms ≡ made.value = some_is (l.choices ++ l.terms) made.value fits.gives in
    let long : length made.value ≡ length l.choices + length l.terms = sym (ap length same) ∙ length-append l.choices l.terms in
    let room : length l.choices + length l.terms ≤ 64 = leb-true (length l.choices + length l.terms) 64 fits.passed in
    let some : 0 < length l.terms = has.terms.some in
    let few : length made.value ≤ 64 = omega arith in
    let each : AllByRecursion IsWay made.value = subst (AllByRecursion IsWay) same (all_append IsWay l.choices l.terms has.sound.choices has.terms.each) in
    subst HasChoices made.gives (record { sound = record { parts = has.sound.parts; terms = no_cycle_short; few = few; choices = each }; choices = record { some = omega arith; few = few; each = each } })

pub record HasParts (l : Level) : Type 0 where
  pub sound : IsSound l
  pub parts : AreWays l.parts

part_sound : (l m : Level) → HasChoices l → with_part l ≡ Some m → HasParts m
unfolding with_part
part_sound l m has e =
    let made = mapped (λ ways. record l { parts = ways; choices = [] }) (all_joined joint.Behind l.parts l.choices) m e in
    let ways : AreWays made.value = joined_ways joint.Behind l.parts l.choices made.value has.sound.parts has.choices made.was in
    subst HasParts made.gives (record { sound = record { parts = are_short made.value ways; terms = has.sound.terms; few = lit≤ tt; choices = tt }; parts = ways })

bar_sound : (l m : Level) (term : Ways) → IsSound l → AreWays term → behind_bar l term ≡ Some m → HasChoices m
unfolding behind_bar
bar_sound l m term sound are e =
    let with_one = led with_choice (with_term l term) m e in
    choice_sound with_one.value m (term_sound l with_one.value term sound are with_one.was) with_one.gives

comma_sound : (l m : Level) (term : Ways) → IsSound l → AreWays term → behind_comma l term ≡ Some m → HasParts m
unfolding behind_comma
comma_sound l m term sound are e =
    let with_one = led with_part (behind_bar l term) m e in
    part_sound with_one.value m (bar_sound l with_one.value term sound are with_one.was) with_one.gives

pub none_some : {A : Type 0} (x : A) → None ≡ Some x → ⊥
none_some x e = cc

pub sign_sound : (k : Mark) (l m : Level) (term : Ways) → IsSound l → AreWays term → behind_term k l term ≡ Some m → IsSound m
unfolding behind_term
sign_sound mark.Blank l m term sound are e = absurd (none_some m e)
sign_sound mark.Comma l m term sound are e = (comma_sound l m term sound are e).sound
sign_sound mark.Bar l m term sound are e = (bar_sound l m term sound are e).sound
sign_sound mark.Plus l m term sound are e = (term_sound l m term sound are e).sound
sign_sound mark.Star l m term sound are e = absurd (none_some m e)
sign_sound mark.Open l m term sound are e = absurd (none_some m e)
sign_sound mark.Close l m term sound are e = absurd (none_some m e)

pub whole_ways : (l : Level) (term ways : Ways) → IsSound l → AreWays term → whole l term ≡ Some ways → AreWays ways
unfolding whole
whole_ways l term ways sound are e =
    let made = mapped (λ (m : Level). m.parts) (behind_comma l term) ways e in
    subst AreWays made.gives (comma_sound l made.value term sound are made.was).parts
