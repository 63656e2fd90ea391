-- Runs over longer and shorter prefixes.
use Rattle.std.proofs.Common.{◌≡◌, ℕ, ◌+◌, ◌<◌, ◌≤◌, List, [], ◌∷◌, ◌++◌, length, take, drop, get_or, Option, Some, None, sym, ap, ◌∙◌}
use Rattle.std.proofs.lemmas.List.{take_more, take-append-drop, take-take}
use Rattle.lisp_read.specs.Places.{start, place_after}
use Rattle.lisp_read.specs.Part.{parts_of_all}
use Rattle.lisp_read.specs.Reading.{Begins}
use Rattle.lisp_read.specs.machine.Steps.{State, next}
use Rattle.lisp_read.specs.machine.Runs.{empty, run, finish, parts_in, ◌>>=◌}
use Rattle.lisp_read.proofs.Runs.{run-append, run_one}
use Rattle.lisp_read.proofs.Accepts.{accepts_text}

-- what stops on the way does not go on
pub none_goes_on : (front back : List ℕ) → run start empty front ≡ None → run start empty (front ++ back) ≡ None
none_goes_on front back e = run-append start empty front back ∙ ap (λ (o : Option State). o >>= λ t. run (place_after start front) t back) e

pub none_longer : (k j : ℕ) (bytes : List ℕ) → k ≤ j → run start empty (take k bytes) ≡ None → run start empty (take j bytes) ≡ None
none_longer k j bytes le e =
    ap (run start empty) (sym (take-append-drop k (take j bytes)))
    ∙ none_goes_on (take k (take j bytes)) (drop k (take j bytes)) (ap (run start empty) (take-take k j bytes le) ∙ e)

-- bytes at which reading stops begin no text
pub none_begins : (bytes : List ℕ) → run start empty bytes ≡ None → Begins bytes → ⊥
none_begins bytes e b = apart (sym none ∙ accepts_text b.trees (bytes ++ b.more) b.text)
  where
    none : parts_in (bytes ++ b.more) ≡ None
    none = ap (λ (o : Option State). o >>= finish) (none_goes_on bytes b.more e)

    apart : None ≡ Some (parts_of_all b.trees) → ⊥
    apart e = cc

-- one byte more
pub run_more : (bytes : List ℕ) (k : ℕ) (s : State) → k < length bytes → run start empty (take k bytes) ≡ Some s → run start empty (take (k + 1) bytes) ≡ next (place_after start (take k bytes)) s (get_or bytes k 0)
run_more bytes k s lt e =
    ap (run start empty) (take_more bytes k 0 lt)
    ∙ run-append start empty (take k bytes) (get_or bytes k 0 ∷ [])
    ∙ ap (λ (o : Option State). o >>= λ t. run (place_after start (take k bytes)) t (get_or bytes k 0 ∷ [])) e
    ∙ run_one (place_after start (take k bytes)) s (get_or bytes k 0)
