use Rattle.std.proofs.Common.{sym}
use Rattle.md_pred.proofs.Keeping.{added_then, passed}
use Rattle.md_pred.proofs.definitions.Definitions.add.Goals as goal

pub returns-in-Some : goal.returns-in-Some
returns-in-Some c =
    added_then c.args.self.now c.define.new.self c.in-Some.name.now c.args.entry.now c.define.result c.in-Some.ensures (rw (sym c.bytes.ensures) c.define.ensures)

pub returns-in-None : goal.returns-in-None
returns-in-None c = passed c.args.self.now c.args.entry.now (sym c.in-None.ensures)
