-- What an expression up to its last term is by the grammar.
use Rattle.std.proofs.Common.{◌≡◌, ℕ, ◌+◌, ◌*◌, List, [], ◌∷◌, ◌++◌, Option, Some, None, option_map, length, append_assoc, append-nil, refl, sym, subst, ◌∙◌}
use Rattle.std.specs.Prelude.{nat_le}
use Rattle.md_text.specs.Lists.{each}
use Rattle.dfa_ways.specs.declared.way.Joint.{Joint}
use Rattle.dfa_ways.specs.declared.way.Joint.TheVariants as joint
use Rattle.dfa_ways.specs.declared.token.Mark.{Mark}
use Rattle.dfa_ways.specs.declared.token.Mark.TheVariants as mark
use Rattle.dfa_ways.specs.declared.token.Token.{Token}
use Rattle.dfa_ways.specs.declared.token.Token.TheVariants as token
use Rattle.dfa_ways.specs.declared.level.Level.{Level}
use Rattle.dfa_ways.specs.Ways.{Way, Ways, no_cycle, joined, with_each, product, all_joined, one_of}
use Rattle.dfa_ways.specs.Expression.{new_level, with_term, with_choice, with_part, behind_bar, behind_comma, behind_term, whole}
use Rattle.law_ways.specs.Grammar.{Phrase, Regexp, Oneof, Allof, Repeat, Derives, one_repeat, more_repeats, one_allof, more_allofs, one_oneof, more_oneofs}
use Rattle.law_ways.proofs.JoinedWays.{mapped, led, tested, some_is}

-- ---- ways with nothing before them

joined_alone : (how : Joint) (y z : Way) → joined how [] y ≡ Some z → y ≡ z
joined_alone joint.Behind y z e = some_is y z (tested (nat_le (0 + length y) 64) (Some y) z e).gives
joined_alone joint.AtOnce y z e = some_is y z e

each_same : {X : Type 0} (read : X → Option X) → ((x y : X) → read x ≡ Some y → x ≡ y) → (xs ys : List X) → each read xs ≡ Some ys → xs ≡ ys
each_same read same [] ys e = some_is [] ys e
each_same read same (x ∷ xs) ys e =
    let first = led (λ y. option_map (λ zs. y ∷ zs) (each read xs)) (read x) ys e in
    let rest = mapped (λ zs. first.value ∷ zs) (each read xs) ys first.gives in
    let head : x ≡ first.value = same x first.value first.was in
    let tail : xs ≡ rest.value = each_same read same xs rest.value rest.was in
    let all : first.value ∷ rest.value ≡ ys = rest.gives in
    cc

with_each_alone : (how : Joint) (ways all : Ways) → with_each how ways [] ≡ Some all → ways ≡ all
unfolding with_each
with_each_alone how ways all e = each_same (joined how []) (joined_alone how) ways all e

all_alone : (how : Joint) (ways all : Ways) → all_joined how no_cycle ways ≡ Some all → ways ≡ all
unfolding all_joined
all_alone how ways all e =
    let fits = tested (nat_le (1 * length ways) 64) (product how no_cycle ways) all e in
    let only = led (λ ws. option_map (λ more. ws ++ more) (Some [])) (with_each how ways []) all fits.gives in
    with_each_alone how ways only.value only.was ∙ sym (append-nil only.value) ∙ some_is (only.value ++ []) all only.gives

one_alone : (ways all : Ways) → one_of [] ways ≡ Some all → ways ≡ all
unfolding one_of
one_alone ways all e = some_is ways all (tested (nat_le (0 + length ways) 64) (Some ways) all e).gives

-- ---- phrases behind others of their kind

module _ (units : List (List ℕ)) where
  -- what stands before a phrase: nothing, or a phrase and a sign
  pub data IsBefore (kind : Phrase) (sign : Mark) (none : Ways) : List Token → Ways → Type 0 where
    nothing : IsBefore kind sign none [] none
    some : {ts : List Token} {ways : Ways} → Derives units kind ts ways → IsBefore kind sign none (ts ++ token.Mark sign ∷ []) ways

  term_behind : {ts us : List Token} {a b : Ways} (all : Ways) → IsBefore Allof mark.Plus no_cycle ts a → Derives units Repeat us b → all_joined joint.AtOnce a b ≡ Some all → Derives units Allof (ts ++ us) all
  term_behind {us} {b} all nothing d e = subst (Derives units Allof us) (all_alone joint.AtOnce b all e) (one_repeat d)
  term_behind all (some more) d e = rw append_assoc (more_repeats more d e)

  choice_behind : {ts us : List Token} {a b : Ways} (all : Ways) → IsBefore Oneof mark.Bar [] ts a → Derives units Allof us b → one_of a b ≡ Some all → Derives units Oneof (ts ++ us) all
  choice_behind {us} {b} all nothing d e = subst (Derives units Oneof us) (one_alone b all e) (one_allof d)
  choice_behind all (some more) d e = rw append_assoc (more_allofs more d e)

  part_behind : {ts us : List Token} {a b : Ways} (all : Ways) → IsBefore Regexp mark.Comma no_cycle ts a → Derives units Oneof us b → all_joined joint.Behind a b ≡ Some all → Derives units Regexp (ts ++ us) all
  part_behind {us} {b} all nothing d e = subst (Derives units Regexp us) (all_alone joint.Behind b all e) (one_oneof d)
  part_behind all (some more) d e = rw append_assoc (more_oneofs more d e)

  -- ---- a level

  pub record IsLevel (l : Level) (ts : List Token) : Type 0 where
    pub parts : List Token
    pub choices : List Token
    pub terms : List Token
    pub are_parts : IsBefore Regexp mark.Comma no_cycle parts l.parts
    pub are_choices : IsBefore Oneof mark.Bar [] choices l.choices
    pub are_terms : IsBefore Allof mark.Plus no_cycle terms l.terms
    pub all : ts ≡ parts ++ (choices ++ terms)

  pub new_is : IsLevel new_level []
  new_is = record { parts = []; choices = []; terms = []; are_parts = nothing; are_choices = nothing; are_terms = nothing; all = refl }

  -- with its last term
  record HasTerms (l : Level) (ts : List Token) : Type 0 where
    pub parts : List Token
    pub choices : List Token
    pub terms : List Token
    pub are_parts : IsBefore Regexp mark.Comma no_cycle parts l.parts
    pub are_choices : IsBefore Oneof mark.Bar [] choices l.choices
    pub are_terms : Derives units Allof terms l.terms
    pub all : ts ≡ parts ++ (choices ++ terms)

  with_last : (l m : Level) (ts us : List Token) (term : Ways) → IsLevel l ts → Derives units Repeat us term → with_term l term ≡ Some m → HasTerms m (ts ++ us)
  unfolding with_term
  with_last l m ts us term is d e =
      let made = mapped (λ ways. record l { terms = ways }) (all_joined joint.AtOnce l.terms term) m e in
      subst (λ (n : Level). HasTerms n (ts ++ us)) made.gives (record {
        parts = is.parts;
        choices = is.choices;
        terms = is.terms ++ us;
        are_parts = is.are_parts;
        are_choices = is.are_choices;
        are_terms = term_behind made.value is.are_terms d made.was;
        all = rw is.all (simp append_assoc);
      })

  -- with its last choice
  record HasChoices (l : Level) (ts : List Token) : Type 0 where
    pub parts : List Token
    pub choices : List Token
    pub are_parts : IsBefore Regexp mark.Comma no_cycle parts l.parts
    pub are_choices : Derives units Oneof choices l.choices
    pub no_terms : l.terms ≡ no_cycle
    pub all : ts ≡ parts ++ choices

  with_terms : (l m : Level) (ts : List Token) → HasTerms l ts → with_choice l ≡ Some m → HasChoices m ts
  unfolding with_choice
  with_terms l m ts has e =
      let made = mapped (λ ways. record l { choices = ways; terms = no_cycle }) (one_of l.choices l.terms) m e in
      subst (λ (n : Level). HasChoices n ts) made.gives (record {
        parts = has.parts;
        choices = has.choices ++ has.terms;
        are_parts = has.are_parts;
        are_choices = choice_behind made.value has.are_choices has.are_terms made.was;
        no_terms = refl;
        all = has.all;
      })

  -- with its last part
  record HasParts (l : Level) (ts : List Token) : Type 0 where
    pub are_parts : Derives units Regexp ts l.parts
    pub no_choices : l.choices ≡ []
    pub no_terms : l.terms ≡ no_cycle

  with_choices : (l m : Level) (ts : List Token) → HasChoices l ts → with_part l ≡ Some m → HasParts m ts
  unfolding with_part
  with_choices l m ts has e =
      let made = mapped (λ ways. record l { parts = ways; choices = [] }) (all_joined joint.Behind l.parts l.choices) m e in
      subst (λ (n : Level). HasParts n ts) made.gives (record {
        are_parts = rw has.all (part_behind made.value has.are_parts has.are_choices made.was);
        no_choices = refl;
        no_terms = has.no_terms;
      })

  -- ---- a term and a sign

  to_bar : (l m : Level) (ts us : List Token) (term : Ways) → IsLevel l ts → Derives units Repeat us term → behind_bar l term ≡ Some m → HasChoices m (ts ++ us)
  unfolding behind_bar
  to_bar l m ts us term is d e =
      let more = led with_choice (with_term l term) m e in
      with_terms more.value m (ts ++ us) (with_last l more.value ts us term is d more.was) more.gives

  to_comma : (l m : Level) (ts us : List Token) (term : Ways) → IsLevel l ts → Derives units Repeat us term → behind_comma l term ≡ Some m → HasParts m (ts ++ us)
  unfolding behind_comma
  to_comma l m ts us term is d e =
      let more = led with_part (behind_bar l term) m e in
      with_choices more.value m (ts ++ us) (to_bar l more.value ts us term is d more.was) more.gives

  plus_level : (m : Level) (ts : List Token) → HasTerms m ts → IsLevel m (ts ++ token.Mark mark.Plus ∷ [])
  plus_level m ts has = record {
    parts = has.parts;
    choices = has.choices;
    terms = has.terms ++ token.Mark mark.Plus ∷ [];
    are_parts = has.are_parts;
    are_choices = has.are_choices;
    are_terms = some has.are_terms;
    all = rw has.all (simp append_assoc);
  }

  bar_level : (m : Level) (ts : List Token) → HasChoices m ts → IsLevel m (ts ++ token.Mark mark.Bar ∷ [])
  bar_level m ts has = record {
    parts = has.parts;
    choices = has.choices ++ token.Mark mark.Bar ∷ [];
    terms = [];
    are_parts = has.are_parts;
    are_choices = some has.are_choices;
    are_terms = rw has.no_terms nothing;
    all = rw has.all (simp (append_assoc, append-nil));
  }

  comma_level : (m : Level) (ts : List Token) → HasParts m ts → IsLevel m (ts ++ token.Mark mark.Comma ∷ [])
  comma_level m ts has = record {
    parts = ts ++ token.Mark mark.Comma ∷ [];
    choices = [];
    terms = [];
    are_parts = some has.are_parts;
    are_choices = rw has.no_choices nothing;
    are_terms = rw has.no_terms nothing;
    all = sym (append-nil (ts ++ token.Mark mark.Comma ∷ []));
  }

  none_some : {A : Type 0} (x : A) → None ≡ Some x → ⊥
  none_some x e = cc

  pub behind_is : (k : Mark) (l m : Level) (ts us : List Token) (term : Ways) → IsLevel l ts → Derives units Repeat us term → behind_term k l term ≡ Some m → IsLevel m ((ts ++ us) ++ token.Mark k ∷ [])
  unfolding behind_term
  behind_is mark.Blank l m ts us term is d e = absurd (none_some m e)
  behind_is mark.Comma l m ts us term is d e = comma_level m (ts ++ us) (to_comma l m ts us term is d e)
  behind_is mark.Bar l m ts us term is d e = bar_level m (ts ++ us) (to_bar l m ts us term is d e)
  behind_is mark.Plus l m ts us term is d e = plus_level m (ts ++ us) (with_last l m ts us term is d e)
  behind_is mark.Star l m ts us term is d e = absurd (none_some m e)
  behind_is mark.Open l m ts us term is d e = absurd (none_some m e)
  behind_is mark.Close l m ts us term is d e = absurd (none_some m e)

  -- the last term
  pub whole_is : (l : Level) (ts us : List Token) (term ways : Ways) → IsLevel l ts → Derives units Repeat us term → whole l term ≡ Some ways → Derives units Regexp (ts ++ us) ways
  unfolding whole
  whole_is l ts us term ways is d e =
      let made = mapped (λ (m : Level). m.parts) (behind_comma l term) ways e in
      subst (Derives units Regexp (ts ++ us)) made.gives (to_comma l made.value ts us term is d made.was).are_parts
