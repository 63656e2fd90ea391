use Rattle.std.proofs.Common.{◌<◌, refl, sym, subst}
use Rattle.rtl_func.specs.declared.paths.Search.{Search}
use Rattle.rtl_func.specs.machine.Search.{IsSearch}
use Rattle.rtl_func.specs.Successors.{successors_of}
use Rattle.rtl_func.proofs.SearchLaws.{work, visited, visited-work}
use Rattle.rtl_func.proofs.paths.search_on.Goals as goal

pub loop-place-smaller : goal.loop-place-smaller
loop-place-smaller c =
    let before = c.loop-place.search in
    let taken = record before { left = c.pop.new.self } in
    subst (λ (s : Search). work s < work before) (sym c.in_ok-look_at.ensures) (visited-work c.in-Some.place (successors_of c.args.insns.now c.in-Some.place) before taken c.in-Some.ensures refl)

pub loop-place-preserved : goal.loop-place-preserved
loop-place-preserved c =
    let before = c.loop-place.search in
    let taken = record before { left = c.pop.new.self } in
    subst (IsSearch c.args.insns.now) (sym c.in_ok-look_at.ensures) (visited c.args.insns.now c.in-Some.place before taken c.in-Some.ensures refl c.loop-place.invariant)
