-- Where a list or a vector is opened too deep.
use Rattle.std.proofs.Common.{◌≡◌, ℕ, ◌+◌, ◌<◌, ◌≤◌, List, [], ◌∷◌, ◌++◌, length, take, get_or, Option, Some, None, sym, ap, subst, ◌∙◌, ◌⊎◌, inl, inr, arith}
use Rattle.std.proofs.lemmas.Bool.{cases_lt}
use Rattle.rtx_tree.specs.declared.place.Place.{Place}
use Rattle.lisp_read.specs.declared.class.Bracket.{Bracket}
use Rattle.lisp_read.specs.Class.{class_of}
use Rattle.lisp_read.specs.Places.{start, place_after}
use Rattle.lisp_read.specs.Part.{Part, Open}
use Rattle.lisp_read.specs.Nesting.{still_open}
use Rattle.lisp_read.specs.Text.{Spells}
use Rattle.lisp_read.specs.Reading.{IsTooDeepAt, NeverTooDeep, IsDepthPlace}
use Rattle.rtx_tree.specs.Limit.{most_open}
use Rattle.lisp_read.specs.machine.Steps.{State}
use Rattle.lisp_read.specs.machine.Runs.{empty, run, ◌>>=◌, Reaches, IsShallow, StopsAt, StopsDeep}
use Rattle.lisp_read.proofs.Settles.{st, fr, settled, settled_within, run_settled}
use Rattle.lisp_read.proofs.Accepts.{accepts}
use Rattle.lisp_read.proofs.Sound.{SpellsFront, spells_front}
use Rattle.lisp_read.proofs.Completes.{begins_by_run}
use Rattle.lisp_read.proofs.Prefixes.{none_longer, run_more}
use Rattle.lisp_read.proofs.Openings.{OpensAt, opens_in}
use Rattle.lisp_read.proofs.Stops.{stops}

-- ---- a byte that is too deep is read, and more is open then than may be

record Deep (bytes : List ℕ) (k : ℕ) : Type 0 where
  state : State
  reached : Reaches bytes (k + 1) state
  deep : most_open < length state.front.within

deep_is_reached : (bytes : List ℕ) (k : ℕ) → IsTooDeepAt bytes k → Deep bytes k
deep_is_reached bytes k h = record {
  state = s.0;
  reached = s.1;
  deep = subst (λ (w : List Bracket). most_open < length w) (sym (settled_within s.0 (fr h.within parts) s.2)) h.deep;
}
  where
    parts : List Part
    parts = h.before ++ Open h.kind (place_after start (take k bytes)) ∷ []

    ran : (run start empty (take (k + 1) bytes) >>= settled) ≡ Some (fr h.within parts)
    ran = accepts start parts (take (k + 1) bytes) (fr [] []) h.spelled ∙ ap (λ (o : Option (List Bracket)). o >>= λ w. Some (fr w parts)) h.are_open

    s : (s : State) × (run start empty (take (k + 1) bytes) ≡ Some s) × (settled s ≡ Some (fr h.within parts))
    s = run_settled (run start empty (take (k + 1) bytes)) (fr h.within parts) ran

-- where reading has come so far and never too deep, no byte before is too deep
pub shallow_before : (bytes : List ℕ) (k j : ℕ) → IsShallow bytes k → j < k → IsTooDeepAt bytes j → ⊥
shallow_before bytes k j shallow lt h =
    let d = deep_is_reached bytes j h in
    let le : length d.state.front.within ≤ most_open = shallow (j + 1) d.state (omega arith) d.reached in
    let gt : most_open < length d.state.front.within = d.deep in
    absurd (omega arith)

pub never_where_read : (bytes : List ℕ) → IsShallow bytes (length bytes) → NeverTooDeep bytes
never_where_read bytes shallow j h = shallow_before bytes (length bytes) j shallow h.in_text h

pub never_where_stopped : (bytes : List ℕ) (k : ℕ) → StopsAt bytes k → NeverTooDeep bytes
never_where_stopped bytes k h j deep = by_order (cases_lt j k)
  where
    d : Deep bytes j
    d = deep_is_reached bytes j deep

    by_order : (j < k) ⊎ (k ≤ j) → ⊥
    by_order (inl lt) = shallow_before bytes k j h.shallow lt deep
    by_order (inr le) =
        let lt : j < length bytes = deep.in_text in
        let none = none_longer (k + 1) (j + 1) bytes (omega arith) (stops bytes k h (omega arith)) in
        apart (sym none ∙ d.reached)
      where
        apart : None ≡ Some d.state → ⊥
        apart e = cc

-- ---- a step after which too much is open was at a byte that is too deep

pub depth_place : (bytes : List ℕ) (place : Place) (k : ℕ) → place ≡ place_after start (take k bytes) → StopsDeep bytes k → IsDepthPlace bytes place
depth_place bytes place k e h = record {
  k = k;
  place_is = e;
  deep = record {
    in_text = h.in_text;
    before = opening.0;
    kind = opening.1;
    spelled = subst (λ (ps : List Part). Spells start ps (take (k + 1) bytes)) opening.2 spells.spelled;
    within = h.deeper.front.within;
    are_open = subst (λ (ps : List Part). still_open [] ps ≡ Some h.deeper.front.within) opening.2 spells.are_open;
    deep = h.deep;
  };
  first = λ j lt deep. shallow_before bytes k j h.shallow lt deep;
  begins = begins_by_run (take (k + 1) bytes) h.deeper reached;
}
  where
    here : Place
    here = place_after start (take k bytes)

    reached : run start empty (take (k + 1) bytes) ≡ Some h.deeper
    reached = run_more bytes k h.state h.in_text h.reached ∙ h.step

    more : length h.state.front.within < length h.deeper.front.within
    more =
        let le : length h.state.front.within ≤ most_open = h.shallow k h.state (omega arith) h.reached in
        let gt : most_open < length h.deeper.front.within = h.deep in
        omega arith

    opening : OpensAt (place_after start (take k bytes)) h.deeper
    opening = opens_in (place_after start (take k bytes)) h.state.front (get_or bytes k 0) (class_of (get_or bytes k 0)) h.state.mode h.deeper h.step more

    settles : settled h.deeper ≡ Some h.deeper.front
    settles = ap (λ m. settled (st h.deeper.front m)) opening.3

    spells : SpellsFront h.deeper.front (take (k + 1) bytes)
    spells = spells_front (take (k + 1) bytes) h.deeper.front (ap (λ (o : Option State). o >>= settled) reached ∙ settles)
