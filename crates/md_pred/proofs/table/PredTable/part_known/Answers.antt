use Rattle.md_pred.specs.machine.Known.{known_in}
use Rattle.md_pred.proofs.Knowing.{part_known, none_known}
use Rattle.md_pred.proofs.table.PredTable.part_known.Goals as goal

pub returns-then-place-at : goal.returns-then-place-at
returns-then-place-at c = λ x are.
    rw c.known_in.ensures (part_known c.args.self.now x c.args.at c.args.place (known_in c.args.known.now c.args.place) c.if-place-at.true c.requires (are c.args.place))

pub returns-else-place-at : goal.returns-else-place-at
returns-else-place-at c = λ x are. none_known c.args.self.now x c.args.at c.args.place c.all.result c.if-place-at.false c.requires c.all.ensures
