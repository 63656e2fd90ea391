use Rattle.std.proofs.Common.{length, take}
use Rattle.std.specs.Prelude.{Ok}
use Rattle.asm_out.specs.Comes.{PartComes, PartsCome, places_from}
use Rattle.asm_out.specs.Outcome.{Appends}
use Rattle.asm_out.proofs.places.write_places.Given as goal

abbrev pub invariant-loop-place : goal.invariant-loop-place
invariant-loop-place l =
    Appends {A = Unit {0}} l.initial.out.items l.out.items l.initial.items.items l.items.items (Ok tt)
    (PartsCome (PartComes l.setting.description.now l.setting.number l.setting.function.now) (length l.initial.out.items) (places_from 0 (take l.place l.setting.function.now.insns)))
