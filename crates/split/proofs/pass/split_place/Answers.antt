use Rattle.std.proofs.Common.{refl}
use Rattle.split.proofs.Running.{found_here, none_here}
use Rattle.split.proofs.pass.split_place.Goals as goal

pub split_by-requires-clause-found : goal.split_by-requires-clause-found
split_by-requires-clause-found c =
    found_here c.args.desc.now c.args.pass c.args.chain.now c.next_pseudo.new.chain c.next_pseudo.new.chain c.args.place c.in_ok-next.next c.insn-insn.result.now
    c.next_pseudo.ensures.same refl c.in_ok-next.ensures.next c.insn-insn.ensures c.in-Some.found.form c.in-Some.found.sequence (c.in_ok-found.ensures.some c.in-Some.found c.in-Some.is)

pub returns-in-None : goal.returns-in-None
returns-in-None c =
    none_here c.args.desc.now c.args.pass c.args.chain.now c.next_pseudo.new.chain c.next_pseudo.new.chain c.args.place c.in_ok-next.next c.insn-insn.result.now
    c.next_pseudo.ensures.same refl c.in_ok-next.ensures.next c.insn-insn.ensures c.args.depth (c.in_ok-found.ensures.none c.in-None.is)
