-- Whatever ways an expression has, the grammar derives them.
use Rattle.std.proofs.Common.{◌≡◌, ℕ, List, [], ◌∷◌, ◌++◌, Some, None, option_map, option_and_then, filter, append_assoc, append-nil, refl, sym, ap, subst, ◌∙◌}
use Rattle.dfa_ways.specs.declared.token.Mark.{Mark}
use Rattle.dfa_ways.specs.declared.token.Mark.TheVariants as mark
use Rattle.dfa_ways.specs.declared.token.Token.{Token}
use Rattle.dfa_ways.specs.declared.token.Token.TheVariants as token
use Rattle.dfa_ways.specs.declared.level.Level.{Level}
use Rattle.dfa_ways.specs.declared.expression.Read.{Read}
use Rattle.dfa_ways.specs.declared.expression.Read.TheVariants as read
use Rattle.dfa_ways.specs.declared.expression.State.{State}
use Rattle.dfa_ways.specs.Tokens.{tokens}
use Rattle.dfa_ways.specs.Ways.{Ways}
use Rattle.dfa_ways.specs.Expression.{new_level, element_of, counted, behind_term, whole, with_word, behind_word, term_of, star_behind, behind_star, opened, behind_open, closed, behind_close, behind_sign, behind_mark, behind, behind_all, ended_in, ended, start, ways_of}
use Rattle.law_ways.specs.Grammar.{Regexp, Repeat, Element, Derives, unit, inner, once, times, is_said, AreDerived}
use Rattle.law_ways.proofs.JoinedWays.{mapped, led, some_is}
use Rattle.law_ways.proofs.Phrases.{IsLevel, new_is, behind_is, whole_is}
use Rattle.law_ways.proofs.LevelWays.{none_some}

module _ (units : List (List ℕ)) where
  -- ---- what was read of a term

  pub data IsRead : Read → List Token → Type 0 where
    nothing : IsRead read.Nothing []
    element : {ts : List Token} {ways : Ways} → Derives units Element ts ways → IsRead (read.Element ways) ts
    star : {ts : List Token} {ways : Ways} → Derives units Element ts ways → IsRead (read.Star ways) (ts ++ token.Mark mark.Star ∷ [])
    counted_ : {ts : List Token} {ways : Ways} → Derives units Repeat ts ways → IsRead (read.Counted ways) ts

  term_read : {r : Read} {ts : List Token} (ways : Ways) → IsRead r ts → term_of r ≡ Some ways → Derives units Repeat ts ways
  term_read ways nothing e = absurd (none_some ways e)
  term_read {ts} ways (element {ways = w} d) e = subst (Derives units Repeat ts) (some_is w ways e) (once d)
  term_read ways (star d) e = absurd (none_some ways e)
  term_read {ts} ways (counted_ {ways = w} d) e = subst (Derives units Repeat ts) (some_is w ways e) d

  word_read : {r : Read} {ts : List Token} (word : List ℕ) (q : Read) → IsRead r ts → with_word units r word ≡ Some q → IsRead q (ts ++ token.Word word ∷ [])
  unfolding with_word
  word_read word q nothing e =
      let made = mapped (λ ways. read.Element ways) (element_of units word) q e in
      subst (λ (p : Read). IsRead p (token.Word word ∷ [])) made.gives (element (unit word made.was))
  word_read word q (element d) e = absurd (none_some q e)
  word_read word q (star {ts} {ways} d) e =
      let made = mapped (λ all. read.Counted all) (counted word ways) q e in
      subst (λ (p : Read). IsRead p ((ts ++ token.Mark mark.Star ∷ []) ++ token.Word word ∷ [])) made.gives (counted_ (rw append_assoc (times word d made.was)))
  word_read word q (counted_ d) e = absurd (none_some q e)

  star_read : {r : Read} {ts : List Token} (q : Read) → IsRead r ts → star_behind r ≡ Some q → IsRead q (ts ++ token.Mark mark.Star ∷ [])
  star_read q nothing e = absurd (none_some q e)
  star_read {ts} q (element {ways} d) e = subst (λ (p : Read). IsRead p (ts ++ token.Mark mark.Star ∷ [])) (some_is (read.Star ways) q e) (star d)
  star_read q (star d) e = absurd (none_some q e)
  star_read q (counted_ d) e = absurd (none_some q e)

  -- ---- the expressions around it

  pub data IsAround : List Level → List Token → Type 0 where
    alone : IsAround [] []
    within : {l : Level} {outer : List Level} {ts us : List Token} → IsAround outer ts → IsLevel units l us → IsAround (l ∷ outer) (ts ++ (us ++ token.Mark mark.Open ∷ []))

  -- ---- all that was read

  pub record IsReadTo (s : State) (ts : List Token) : Type 0 where
    pub around : List Token
    pub before : List Token
    pub last : List Token
    pub is_around : IsAround s.outer around
    pub is_before : IsLevel units s.level before
    pub is_last : IsRead s.read last
    pub all : ts ≡ around ++ (before ++ last)

  start_read : IsReadTo start []
  start_read = record { around = []; before = []; last = []; is_around = alone; is_before = new_is units; is_last = nothing; all = refl }

  word_to : (word : List ℕ) (s t : State) (ts : List Token) → IsReadTo s ts → behind_word units word s ≡ Some t → IsReadTo t (ts ++ token.Word word ∷ [])
  unfolding behind_word
  word_to word s t ts is e =
      let made = mapped (λ r. record s { read = r }) (with_word units s.read word) t e in
      subst (λ (u : State). IsReadTo u (ts ++ token.Word word ∷ [])) made.gives (record {
        around = is.around;
        before = is.before;
        last = is.last ++ token.Word word ∷ [];
        is_around = is.is_around;
        is_before = is.is_before;
        is_last = word_read word made.value is.is_last made.was;
        all = rw is.all (simp append_assoc);
      })

  star_to : (s t : State) (ts : List Token) → IsReadTo s ts → behind_star s ≡ Some t → IsReadTo t (ts ++ token.Mark mark.Star ∷ [])
  unfolding behind_star
  star_to s t ts is e =
      let made = mapped (λ r. record s { read = r }) (star_behind s.read) t e in
      subst (λ (u : State). IsReadTo u (ts ++ token.Mark mark.Star ∷ [])) made.gives (record {
        around = is.around;
        before = is.before;
        last = is.last ++ token.Mark mark.Star ∷ [];
        is_around = is.is_around;
        is_before = is.is_before;
        is_last = star_read made.value is.is_last made.was;
        all = rw is.all (simp append_assoc);
      })

  sign_to : (k : Mark) (s t : State) (ts : List Token) → IsReadTo s ts → behind_sign k s ≡ Some t → IsReadTo t (ts ++ token.Mark k ∷ [])
  unfolding behind_sign
  sign_to k s t ts is e =
      let term = led (λ w. option_map (λ l. record s { level = l; read = read.Nothing }) (behind_term k s.level w)) (term_of s.read) t e in
      let made = mapped (λ l. record s { level = l; read = read.Nothing }) (behind_term k s.level term.value) t term.gives in
      subst (λ (u : State). IsReadTo u (ts ++ token.Mark k ∷ [])) made.gives (record {
        around = is.around;
        before = (is.before ++ is.last) ++ token.Mark k ∷ [];
        last = [];
        is_around = is.is_around;
        is_before = behind_is units k s.level made.value is.before is.last term.value is.is_before (term_read term.value is.is_last term.was) made.was;
        is_last = nothing;
        all = rw is.all (simp (append_assoc, append-nil));
      })

  open_read : {r : Read} {last : List Token} (outer : List Level) (l : Level) (t : State) (ts around before : List Token) → IsAround outer around → IsLevel units l before → IsRead r last
      → ts ≡ around ++ (before ++ last) → opened r outer l ≡ Some t → IsReadTo t (ts ++ token.Mark mark.Open ∷ [])
  open_read outer l t ts around before a b nothing all e =
      subst (λ (u : State). IsReadTo u (ts ++ token.Mark mark.Open ∷ [])) (some_is (record { outer = l ∷ outer; level = new_level; read = read.Nothing }) t e) (record {
        around = around ++ (before ++ token.Mark mark.Open ∷ []);
        before = [];
        last = [];
        is_around = within a b;
        is_before = new_is units;
        is_last = nothing;
        all = rw all (simp (append_assoc, append-nil));
      })
  open_read outer l t ts around before a b (element d) all e = absurd (none_some t e)
  open_read outer l t ts around before a b (star d) all e = absurd (none_some t e)
  open_read outer l t ts around before a b (counted_ d) all e = absurd (none_some t e)

  open_to : (s t : State) (ts : List Token) → IsReadTo s ts → behind_open s ≡ Some t → IsReadTo t (ts ++ token.Mark mark.Open ∷ [])
  unfolding behind_open
  open_to s t ts is e = open_read s.outer s.level t ts is.around is.before is.is_around is.is_before is.is_last is.all e

  close_read : {outer : List Level} {around : List Token} (ways : Ways) (t : State) (ts inside : List Token) → IsAround outer around → Derives units Regexp inside ways
      → ts ≡ around ++ inside → closed outer ways ≡ Some t → IsReadTo t (ts ++ token.Mark mark.Close ∷ [])
  close_read ways t ts inside alone d all e = absurd (none_some t e)
  close_read ways t ts inside (within {l} {outer} {ts = front} {us} a b) d all e =
      subst (λ (u : State). IsReadTo u (ts ++ token.Mark mark.Close ∷ [])) (some_is (record { outer = outer; level = l; read = read.Element ways }) t e) (record {
        around = front;
        before = us;
        last = token.Mark mark.Open ∷ (inside ++ token.Mark mark.Close ∷ []);
        is_around = a;
        is_before = b;
        is_last = element (inner d);
        all = rw all (simp append_assoc);
      })

  close_to : (s t : State) (ts : List Token) → IsReadTo s ts → behind_close s ≡ Some t → IsReadTo t (ts ++ token.Mark mark.Close ∷ [])
  unfolding behind_close
  close_to s t ts is e =
      let term = led (λ w. option_and_then (closed s.outer) (whole s.level w)) (term_of s.read) t e in
      let ways = led (closed s.outer) (whole s.level term.value) t term.gives in
      close_read ways.value t ts (is.before ++ is.last) is.is_around (whole_is units s.level is.before is.last term.value ways.value is.is_before (term_read term.value is.is_last term.was) ways.was) is.all ways.gives

  -- ---- the next token

  mark_to : (k : Mark) (s t : State) (ts : List Token) → IsReadTo s ts → behind_mark k s ≡ Some t → IsReadTo t (ts ++ filter is_said (token.Mark k ∷ []))
  unfolding behind_mark
  mark_to mark.Blank s t ts is e = rw append-nil (subst (λ (u : State). IsReadTo u ts) (some_is s t e) is)
  mark_to mark.Comma s t ts is e = sign_to mark.Comma s t ts is e
  mark_to mark.Bar s t ts is e = sign_to mark.Bar s t ts is e
  mark_to mark.Plus s t ts is e = sign_to mark.Plus s t ts is e
  mark_to mark.Star s t ts is e = star_to s t ts is e
  mark_to mark.Open s t ts is e = open_to s t ts is e
  mark_to mark.Close s t ts is e = close_to s t ts is e

  next_to : (k : Token) (s t : State) (ts : List Token) → IsReadTo s ts → behind units s k ≡ Some t → IsReadTo t (ts ++ filter is_said (k ∷ []))
  unfolding behind
  next_to (token.Mark m) s t ts is e = mark_to m s t ts is e
  next_to (token.Word word) s t ts is e = word_to word s t ts is e

  -- ---- all tokens

  said_more : (k : Token) (ks : List Token) → filter is_said (k ∷ ks) ≡ filter is_said (k ∷ []) ++ filter is_said ks
  said_more (token.Mark mark.Blank) ks = refl
  said_more (token.Mark mark.Comma) ks = refl
  said_more (token.Mark mark.Bar) ks = refl
  said_more (token.Mark mark.Plus) ks = refl
  said_more (token.Mark mark.Star) ks = refl
  said_more (token.Mark mark.Open) ks = refl
  said_more (token.Mark mark.Close) ks = refl
  said_more (token.Word word) ks = refl

  all_to : (ks : List Token) (s t : State) (ts : List Token) → IsReadTo s ts → behind_all units s ks ≡ Some t → IsReadTo t (ts ++ filter is_said ks)
  all_to [] s t ts is e = rw append-nil (subst (λ (u : State). IsReadTo u ts) (some_is s t e) is)
  all_to (k ∷ ks) s t ts is e =
      let next = led (λ n. behind_all units n ks) (behind units s k) t e in
      let rest : IsReadTo t ((ts ++ filter is_said (k ∷ [])) ++ filter is_said ks) = all_to ks next.value t (ts ++ filter is_said (k ∷ [])) (next_to k s next.value ts is next.was) next.gives in
      subst (IsReadTo t) (append_assoc ts (filter is_said (k ∷ [])) (filter is_said ks) ∙ ap (λ (us : List Token). ts ++ us) (sym (said_more k ks))) rest

  -- ---- the end

  end_read : {outer : List Level} {around : List Token} {r : Read} {last : List Token} (l : Level) (ways : Ways) (ts before : List Token) → IsAround outer around → IsLevel units l before → IsRead r last
      → ts ≡ around ++ (before ++ last) → ended_in outer l r ≡ Some ways → Derives units Regexp ts ways
  end_read {r} {last} l ways ts before alone b is all e =
      let term = led (whole l) (term_of r) ways e in
      rw all (whole_is units l before last term.value ways b (term_read term.value is term.was) term.gives)
  end_read l ways ts before (within a c) b is all e = absurd (none_some ways e)

  end_to : (s : State) (ways : Ways) (ts : List Token) → IsReadTo s ts → ended s ≡ Some ways → Derives units Regexp ts ways
  unfolding ended
  end_to s ways ts is e = end_read s.level ways ts is.before is.is_around is.is_before is.is_last is.all e

pub are_derived : AreDerived
unfolding ways_of
are_derived units text ways e =
    let last = led ended (behind_all units start (tokens text)) ways e in
    end_to units last.value ways (filter is_said (tokens text)) (all_to units (tokens text) start last.value [] (start_read units) last.was) last.gives
