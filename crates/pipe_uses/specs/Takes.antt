-- What instructions take of the pipeline of a description: GCC Internals, "Specifying processor
-- pipeline description".
use Rattle.std.specs.Prelude.{◌≡◌, ℕ, true, false, List, Option, Some, None, slice_get}
use Rattle.std.specs.Option.{option_map_or}
use Rattle.rtx_tree.specs.declared.function.Insn.{Insn}
use Rattle.md_forms.specs.declared.form.Entry.{Entry}
use Rattle.md_desc.specs.declared.output.Chosen.{Chosen}
use Rattle.md_desc.specs.Recog.{IsChosen, NoneMatchesOut}
use Rattle.form_needs.specs.Needs.{needs_form, output_facts}
use Rattle.dfa_ways.specs.Ways.{no_cycle}
use Rattle.md_dfa.specs.declared.pipeline.Pipeline.{Pipeline}
use Rattle.md_dfa.specs.declared.reservation.Reservation.{Reservation}
use Rattle.md_dfa.specs.Pipeline.{reservation_of}
use Rattle.region_jobs.specs.declared.taken.Taken.{Taken}

-- no unit, and the result one cycle later
abbrev pub nothing : Taken
nothing = record { latency = 1; ways = no_cycle }

abbrev pub taken_as : Reservation → Taken
taken_as r = record { latency = r.latency; ways = r.ways }

-- what an instruction takes of a reservation with a number, or of none
abbrev pub taken_by : Pipeline → Option ℕ → Taken
taken_by pipeline None = nothing
taken_by pipeline (Some r) = option_map_or taken_as (slice_get pipeline.reservations r) nothing

-- what an instruction takes: by the first form that counts at output
pub data Takes (forms : List Entry) (pipeline : Pipeline) (i : Insn) : Taken → Type 0 where
  note : needs_form i ≡ false → Takes forms pipeline i nothing
  unmatched : needs_form i ≡ true → NoneMatchesOut forms output_facts i.pattern →
      Takes forms pipeline i nothing
  chosen : (c : Chosen) → needs_form i ≡ true → IsChosen forms output_facts i.pattern c →
      Takes forms pipeline i (taken_by pipeline (reservation_of pipeline forms c.form c.alternative))
