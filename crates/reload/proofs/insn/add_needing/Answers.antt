use Rattle.reload.proofs.Matching.{found_none}
use Rattle.reload.proofs.Adding.{needing_refused}
use Rattle.reload.proofs.insn.add_needing.Goals as goal

pub returns-in-None : goal.returns-in-None
returns-in-None c =
    let s = c.args.setting.now in
    needing_refused s.desc.now s.homes.now s.layout.now c.args.uid c.args.insn.now
    c.in_ok-placed.placed c.in_ok-placed.ensures
    c.requires.needs (found_none s.desc.now c.in_ok-placed.placed c.in_ok-found.field-0 c.in-None.is
    c.in_ok-found.ensures)
