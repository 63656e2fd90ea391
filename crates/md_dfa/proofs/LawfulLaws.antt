-- Each reservation that is read is lawful.
use Rattle.std.proofs.Common.{◌≡◌, ℕ, ◌≤◌, List, [], ◌∷◌, Option, Some, None, option_and_then, refl, subst}
use Rattle.std.specs.Prelude.{nat_le, codes}
use Rattle.std.specs.List.{AllByRecursion, cons_option, filter_map}
use Rattle.std.proofs.lemmas.Bool.{leb-true}
use Rattle.rtx_tree.specs.Limit.{most_latency}
use Rattle.lisp_read.specs.declared.tree.Tree.{Tree}
use Rattle.lisp_read.specs.Shape.{atom_of, string_of, items_of, is_word}
use Rattle.md_text.specs.Template.{operand_number}
use Rattle.dfa_ways.specs.Ways.{Ways}
use Rattle.dfa_ways.specs.Expression.{ways_of}
use Rattle.law_ways.proofs.JoinedWays.{led, tested, some_is}
use Rattle.law_ways.proofs.WholeWays.{have_ways}
use Rattle.md_forms.specs.declared.form.Entry.{Entry}
use Rattle.md_dfa.specs.declared.test.Test.{Test}
use Rattle.md_dfa.specs.declared.reservation.Reservation.{Reservation}
use Rattle.md_dfa.specs.Test.{test_of}
use Rattle.md_dfa.specs.Reservations.{latency_by, latency_of, reservation_from, reservation_with, reservation_by, reservation_among, reservation_in}
use Rattle.md_dfa.specs.Units.{units_of}
use Rattle.md_dfa.specs.Pipeline.{pipeline_in}
use Rattle.md_dfa.specs.Lawful.{IsLawful, AreLawful}

none_some : {A : Type 0} (x : A) → None ≡ Some x → ⊥
none_some x e = cc

-- ---- one reservation

latency_small : (text : List ℕ) (n : ℕ) → latency_of text ≡ Some n → n ≤ most_latency
unfolding latency_of
latency_small text n e =
    let number = led latency_by (operand_number text) n e in
    let fits = tested (nat_le number.value most_latency) (Some number.value) n number.gives in
    let same : number.value ≡ n = some_is number.value n fits.gives in
    subst (λ (k : ℕ). k ≤ most_latency) same (leb-true number.value most_latency fits.passed)

record Parts (latency : Option ℕ) (ways : Option Ways) (r : Reservation) : Type 0 where
  pub latency_is : latency ≡ Some r.latency
  pub ways_are : ways ≡ Some r.ways

parts_of : (latency : Option ℕ) (test : Option Test) (ways : Option Ways) (r : Reservation) → reservation_from latency test ways ≡ Some r → Parts latency ways r
parts_of (Some l) (Some t) (Some w) r e =
    let made : Reservation = record { latency = l; test = t; ways = w } in
    subst (λ (q : Reservation). Parts (Some l) (Some w) q) (some_is made r e) (record { latency_is = refl; ways_are = refl })
parts_of None t w r e = absurd (none_some r e)
parts_of (Some l) None w r e = absurd (none_some r e)
parts_of (Some l) (Some t) None r e = absurd (none_some r e)

with_lawful : (units : List (List ℕ)) (l t : Tree) (text : List ℕ) (r : Reservation) → reservation_with units l t text ≡ Some r → IsLawful r
unfolding reservation_with
with_lawful units l t text r e =
    let parts = parts_of (option_and_then latency_of (atom_of l)) (test_of t) (ways_of units text) r e in
    let latency = led latency_of (atom_of l) r.latency parts.latency_is in
    record { ways = have_ways units text r.ways parts.ways_are; latency = latency_small latency.value r.latency latency.gives }

by_lawful : (units : List (List ℕ)) (l t : Tree) (name text : Option (List ℕ)) (r : Reservation) → reservation_by units l t name text ≡ Some r → IsLawful r
by_lawful units l t (Some name) (Some text) r e = with_lawful units l t text r e
by_lawful units l t None text r e = absurd (none_some r e)
by_lawful units l t (Some name) None r e = absurd (none_some r e)

among_lawful : (units : List (List ℕ)) (ts : List Tree) (r : Reservation) → reservation_among units ts ≡ Some r → IsLawful r
among_lawful units [] r e = absurd (none_some r e)
among_lawful units (h ∷ []) r e = absurd (none_some r e)
among_lawful units (h ∷ n ∷ []) r e = absurd (none_some r e)
among_lawful units (h ∷ n ∷ l ∷ []) r e = absurd (none_some r e)
among_lawful units (h ∷ n ∷ l ∷ t ∷ []) r e = absurd (none_some r e)
among_lawful units (h ∷ n ∷ l ∷ t ∷ x ∷ []) r e =
    let headed = tested (is_word (codes "define_insn_reservation") h) (reservation_by units l t (string_of n) (string_of x)) r e in
    by_lawful units l t (string_of n) (string_of x) r headed.gives
among_lawful units (h ∷ n ∷ l ∷ t ∷ x ∷ y ∷ more) r e = absurd (none_some r e)

reservation_lawful : (units : List (List ℕ)) (form : Entry) (r : Reservation) → reservation_in units form ≡ Some r → IsLawful r
unfolding reservation_in
reservation_lawful units form r e =
    let tree = led (λ t. reservation_among units (items_of t)) form.timing r e in
    among_lawful units (items_of tree.value) r tree.gives

-- ---- all of them

front_lawful : (o : Option Reservation) (rs : List Reservation) → ((r : Reservation) → o ≡ Some r → IsLawful r) → AllByRecursion IsLawful rs → AllByRecursion IsLawful (cons_option o rs)
front_lawful None rs here more = more
front_lawful (Some r) rs here more = (here r refl, more)

among_all : (units : List (List ℕ)) (forms : List Entry) → AllByRecursion IsLawful (filter_map (reservation_in units) forms)
among_all units [] = tt
among_all units (form ∷ forms) = front_lawful (reservation_in units form) (filter_map (reservation_in units) forms) (reservation_lawful units form) (among_all units forms)

-- the reservations of each pipeline are lawful
pub pipeline_lawful : (forms : List Entry) → AreLawful (pipeline_in forms)
unfolding pipeline_in
pipeline_lawful forms = among_all (units_of forms) forms
