use Rattle.std.proofs.Common.{◌≡◌, List, drop}
use Rattle.std.specs.List.{position_from}
use Rattle.md_forms.specs.declared.form.Entry.{Entry}
use Rattle.md_attr.specs.machine.Tables.{AreAttributesOf}
use Rattle.md_dfa.specs.Test.{test_holds}
use Rattle.md_dfa.proofs.pipeline.Pipeline.reservation.Given as goal

abbrev pub invariant-loop-at : goal.invariant-loop-at
invariant-loop-at l = (forms : List Entry) → AreAttributesOf l.attrs forms →
    position_from (λ r. test_holds forms l.form l.alternative r.test) l.at (drop l.at l.reservations) ≡ position_from (λ r. test_holds forms l.form l.alternative r.test) 0 l.reservations
