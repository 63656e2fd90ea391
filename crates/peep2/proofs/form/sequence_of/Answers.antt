use Rattle.std.proofs.Common.{map}
use Rattle.rtx_tree.specs.declared.function.Insn.{Insn}
use Rattle.peep2.proofs.Made.{match_makes_ok, nothing_makes}
use Rattle.peep2.proofs.form.sequence_of.Goals as goal

pub returns-in-Some : goal.returns-in-Some
returns-in-Some c =
    match_makes_ok c.args.desc.now c.args.facts.now (map (λ (i : Insn). i.pattern) c.args.insns.now) c.args.form c.in-Some.found c.rewritten_by.result
    ((c.in_ok-found.ensures c.in-Some.found).0 c.in-Some.is) c.rewritten_by.ensures

pub returns-in-None : goal.returns-in-None
returns-in-None c = λ s makes.
    nothing_makes c.args.desc.now c.args.facts.now (map (λ (i : Insn). i.pattern) c.args.insns.now) c.args.form c.in_ok-found.field-0 c.in-None.is c.in_ok-found.ensures s makes
