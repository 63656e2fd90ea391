-- Where reading stops, the longest prefix that begins a text ends.
use Rattle.std.proofs.Common.{◌≡◌, ℕ, ◌+◌, ◌<◌, ◌≤◌, List, length, take, Option, Some, None, sym, ap, ◌∙◌, ◌⊎◌, inl, inr, arith}
use Rattle.std.proofs.lemmas.List.{take_all}
use Rattle.std.proofs.lemmas.Bool.{cases_lt}
use Rattle.rtx_tree.specs.declared.place.Place.{Place}
use Rattle.lisp_read.specs.declared.tree.Tree.{Tree}
use Rattle.lisp_read.specs.Places.{start, place_after}
use Rattle.lisp_read.specs.Part.{parts_of_all}
use Rattle.lisp_read.specs.Reading.{IsSyntaxPlace}
use Rattle.lisp_read.specs.machine.Steps.{State}
use Rattle.lisp_read.specs.machine.Runs.{empty, run, finish, parts_in, ◌>>=◌, StopsAt}
use Rattle.lisp_read.proofs.Accepts.{accepts_text}
use Rattle.lisp_read.proofs.Completes.{begins_by_run}
use Rattle.lisp_read.proofs.Prefixes.{none_longer, none_begins, run_more}

pub stops : (bytes : List ℕ) (k : ℕ) → StopsAt bytes k → k < length bytes → run start empty (take (k + 1) bytes) ≡ None
stops bytes k h lt = run_more bytes k h.state lt h.reached ∙ h.byte lt

-- reading what stops gives no parts
pub stops_short : (bytes : List ℕ) (k : ℕ) → StopsAt bytes k → parts_in bytes ≡ None
stops_short bytes k h = by_length (cases_lt k (length bytes))
  where
    by_length : (k < length bytes) ⊎ (length bytes ≤ k) → parts_in bytes ≡ None
    by_length (inl lt) =
        let none : run start empty (take (length bytes) bytes) ≡ None = none_longer (k + 1) (length bytes) bytes (omega arith) (stops bytes k h lt) in
        ap (λ (o : Option State). o >>= finish) (ap (run start empty) (sym (take_all (length bytes) bytes (omega arith))) ∙ none)
    by_length (inr le) =
        ap (λ (o : Option State). o >>= finish) (ap (run start empty) (sym (take_all k bytes le)) ∙ h.reached) ∙ h.end le

pub syntax_place : (bytes : List ℕ) (place : Place) (k : ℕ) → place ≡ place_after start (take k bytes) → StopsAt bytes k → IsSyntaxPlace bytes place
syntax_place bytes place k e h = record {
  k = k;
  in_text = h.in_text;
  place_is = e;
  begins = begins_by_run (take k bytes) h.state h.reached;
  longest = λ j lt le b. none_begins (take j bytes) (none_longer (k + 1) j bytes (omega arith) (stops bytes k h (omega arith))) b;
  no_text = λ trees text. apart trees (sym (stops_short bytes k h) ∙ accepts_text trees bytes text);
}
  where
    apart : (trees : List Tree) → None ≡ Some (parts_of_all trees) → ⊥
    apart trees e = cc
