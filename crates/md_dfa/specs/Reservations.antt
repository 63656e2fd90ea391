-- Reservations: GCC Internals, "Specifying processor pipeline description".
use Rattle.std.specs.Prelude.{ℕ, nat_le, List, [], ◌∷◌, Option, Some, None, if◌then◌else◌, codes, option_and_then}
use Rattle.rtx_tree.specs.Limit.{most_latency}
use Rattle.lisp_read.specs.declared.tree.Tree.{Tree}
use Rattle.lisp_read.specs.Shape.{atom_of, string_of, items_of, is_word}
use Rattle.md_text.specs.Template.{operand_number}
use Rattle.md_forms.specs.declared.form.Entry.{Entry}
use Rattle.dfa_ways.specs.Ways.{Ways}
use Rattle.dfa_ways.specs.Expression.{ways_of}
use Rattle.md_dfa.specs.declared.test.Test.{Test}
use Rattle.md_dfa.specs.declared.reservation.Reservation.{Reservation}
use Rattle.md_dfa.specs.Test.{test_of}

abbrev pub latency_by : ℕ → Option ℕ
latency_by n = if nat_le n most_latency then Some n else None

-- the number that a text writes, from 0 to 1,000
unfoldable pub latency_of : List ℕ → Option ℕ
latency_of text = option_and_then latency_by (operand_number text)

abbrev pub reservation_from : Option ℕ → Option Test → Option Ways → Option Reservation
reservation_from (Some latency) (Some test) (Some ways) = Some (record { latency = latency; test = test; ways = ways })
reservation_from _ _ _ = None

unfoldable pub reservation_with : List (List ℕ) → Tree → Tree → List ℕ → Option Reservation
reservation_with units l t text =
    reservation_from (option_and_then latency_of (atom_of l)) (test_of t) (ways_of units text)

-- the name and the expression are strings
abbrev pub reservation_by : List (List ℕ) → Tree → Tree → Option (List ℕ) → Option (List ℕ) →
    Option Reservation
reservation_by units l t (Some name) (Some text) = reservation_with units l t text
reservation_by units l t _ _ = None

abbrev pub reservation_among : List (List ℕ) → List Tree → Option Reservation
reservation_among units (h ∷ n ∷ l ∷ t ∷ e ∷ []) =
    if is_word (codes "define_insn_reservation") h then reservation_by units l t (string_of n) (string_of e) else None
reservation_among units _ = None

-- the reservation that a form defines over some units:
-- (define_insn_reservation "NAME" LATENCY TEST "EXPRESSION")
unfoldable pub reservation_in : List (List ℕ) → Entry → Option Reservation
reservation_in units form = option_and_then (λ t. reservation_among units (items_of t)) form.timing
