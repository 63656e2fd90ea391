use Rattle.std.proofs.Common.{◌≤◌, length, arith}
use Rattle.md_pred.specs.machine.Steps.{asked_within}
use Rattle.md_pred.proofs.Parts.{no_part, part_before}
use Rattle.md_pred.proofs.table.PredTable.part.Goals as goal

pub returns-then-place-at-clause-value : goal.returns-then-place-at-clause-value
returns-then-place-at-clause-value c = λ x.
    let within : c.args.at.place ≤ length c.args.self.now.definitions.rows = omega arith in
    part_before (asked_within c.args.self.now c.args.at.rounds) x c.args.at.mode c.args.self.now.definitions.rows c.args.at.place c.args.place c.if-place-at.true within

pub returns-else-place-at-clause-value : goal.returns-else-place-at-clause-value
returns-else-place-at-clause-value c = λ x.
    let within : c.args.at.place ≤ length c.args.self.now.definitions.rows = omega arith in
    no_part (asked_within c.args.self.now c.args.at.rounds) x c.args.at.mode c.args.self.now.definitions.rows c.args.at.place c.args.place c.if-place-at.false within
