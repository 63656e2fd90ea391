-- What a state leaves where the bytes end: its front, with the atom in which they end.
use Rattle.std.proofs.Common.{◌≡◌, List, [], ◌∷◌, ◌++◌, Option, Some, None, refl, ap, ◌∙◌, append_assoc}
use Rattle.lisp_read.specs.declared.class.Bracket.{Bracket}
use Rattle.lisp_read.specs.declared.mode.Mode.{Mode}
use Rattle.lisp_read.specs.Part.{Part}
use Rattle.lisp_read.specs.Nesting.{still_open}
use Rattle.lisp_read.specs.machine.Steps.{Front, State}
use Rattle.lisp_read.specs.machine.Runs.{◌>>=◌, ended, ended_in, finish}

abbrev pub st : Front → Mode → State
st f m = record { front = f; mode = m }

abbrev pub fr : List Bracket → List Part → Front
fr within parts = record { within = within; parts = parts }

abbrev pub settled : State → Option Front
settled s = ended s.front.parts s.mode >>= λ ps. Some (fr s.front.within ps)

-- the front behind further parts; None where they close what is not open
abbrev pub after : Front → List Part → Option Front
after f ps = still_open f.within ps >>= λ w. Some (fr w (f.parts ++ ps))

-- one part more
pub after_part : (within : List Bracket) (parts ps : List Part) (part : Part) → after (fr within (parts ++ part ∷ [])) ps ≡ (still_open within ps >>= λ w. Some (fr w (parts ++ part ∷ ps)))
after_part within parts ps part = ap (λ (x : List Part). still_open within ps >>= λ w. Some (fr w x)) (append_assoc parts (part ∷ []) ps)

pub some_is : {A : Type 0} (x y : A) → Some x ≡ Some y → x ≡ y
some_is x y e = cc

-- ---- the end of a text is a state that settles with nothing open

pub settled_of_finish : (s : State) (all : List Part) → finish s ≡ Some all → settled s ≡ Some (fr [] all)
settled_of_finish s all h = by_open s.front.within s.front.parts s.mode h
  where
    by_open : (within : List Bracket) (parts : List Part) (m : Mode) → ended_in within parts m ≡ Some all → settled (st (fr within parts) m) ≡ Some (fr [] all)
    by_open [] parts m h = rw h refl
    by_open (k ∷ within) parts m h = cc

made : (within : List Bracket) (g : Front) (o : Option (List Part)) → (o >>= λ ps. Some (fr within ps)) ≡ Some g → (o ≡ Some g.parts) × (within ≡ g.within)
made within g None h = cc
made within g (Some ps) h = (ap (λ (f : Front). Some f.parts) (some_is (fr within ps) g h), ap (λ (f : Front). f.within) (some_is (fr within ps) g h))

pub finish_of_settled : (s : State) (g : Front) → settled s ≡ Some g → g.within ≡ [] → finish s ≡ Some g.parts
finish_of_settled s g h n =
    let m = made s.front.within g (ended s.front.parts s.mode) h in
    by_open s.front.within (m.1 ∙ n) m.0
  where
    by_open : (within : List Bracket) → within ≡ [] → ended s.front.parts s.mode ≡ Some g.parts → ended_in within s.front.parts s.mode ≡ Some g.parts
    by_open [] e h = h
    by_open (k ∷ within) e h = cc

-- the end of a lexeme opens and closes nothing
pub settled_within : (s : State) (g : Front) → settled s ≡ Some g → s.front.within ≡ g.within
settled_within s g h = (made s.front.within g (ended s.front.parts s.mode) h).1

-- ---- the same behind a run

pub run_settled : (o : Option State) (g : Front) → (o >>= settled) ≡ Some g → (s : State) × (o ≡ Some s) × (settled s ≡ Some g)
run_settled None g h = cc
run_settled (Some s) g h = (s, refl, h)

pub run_finished : (o : Option State) (all : List Part) → (o >>= finish) ≡ Some all → (o >>= settled) ≡ Some (fr [] all)
run_finished None all h = cc
run_finished (Some s) all h = settled_of_finish s all h

pub run_finishes : (o : Option State) (g : Front) → (o >>= settled) ≡ Some g → g.within ≡ [] → (o >>= finish) ≡ Some g.parts
run_finishes None g h n = cc
run_finishes (Some s) g h n = finish_of_settled s g h n
