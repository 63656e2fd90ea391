-- The pipeline of a description: GCC Internals, "Specifying processor pipeline description". Units
-- and reservations are read; a form that is neither, or outside what is read, is passed over.
use Rattle.std.specs.Prelude.{ℕ, List, Option}
use Rattle.std.specs.List.{filter_map, position_from}
use Rattle.md_forms.specs.declared.form.Entry.{Entry}
use Rattle.md_dfa.specs.declared.pipeline.Pipeline.{Pipeline}
use Rattle.md_dfa.specs.Units.{units_of}
use Rattle.md_dfa.specs.Test.{test_holds}
use Rattle.md_dfa.specs.Reservations.{reservation_in}

-- the pipeline that a description's forms define. Wherever a unit is defined, each reservation may
-- name it.
unfoldable pub pipeline_in : List Entry → Pipeline
pipeline_in forms = record { reservations = filter_map (reservation_in (units_of forms)) forms }

-- the first reservation whose test holds in an alternative of a form
abbrev pub reservation_of : Pipeline → List Entry → ℕ → ℕ → Option ℕ
reservation_of pipeline forms form alternative =
    position_from (λ r. test_holds forms form alternative r.test) 0 pipeline.reservations
