use Rattle.std.proofs.Common.{ℕ, ◌*◌, ◌<◌, List, subst}
use Rattle.std.specs.Prelude.{All}
use Rattle.live_rows.proofs.WidthLaws.{room-wider}
use Rattle.live_rows.proofs.solve.width_with.Goals as goal

pub returns-clause-room : goal.returns-clause-room
returns-clause-room c =
    let last = c.width_of.result in
    let room : ℕ → List ℕ → Type 0 = λ width regs. All (λ reg. reg < 64 * width) regs in
    record {
      uses = room-wider c.width_of-width.result last c.args.node.now.uses (subst (room c.width_of-width.result) c.as_slice.ensures.value c.width_of-width.ensures.room) c.width_of.ensures.from;
      defines = subst (room last) c.as_slice-2.ensures.value c.width_of.ensures.room;
    }
