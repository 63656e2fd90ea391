use Rattle.std.proofs.Common.{subst}
use Rattle.md_desc.specs.Recog.{IsFirst, NoneMatches}
use Rattle.lower_insn.proofs.emit.is_matched.Goals as goal

pub returns-in-Some : goal.returns-in-Some
returns-in-Some c =
    let m = c.in-Some.field-0 in
    let first = subst (λ f. IsFirst c.args.desc.now f c.args.x.now 0 m) c.lower_facts.ensures ((c.in_ok-recog.ensures.first m).0 c.in-Some.is) in
    record { form = m.form; operands = m.operands; matches = first.matches }

pub returns : goal.returns
returns c = subst (λ f. NoneMatches c.args.desc.now f c.args.x.now) c.lower_facts.ensures (c.in_ok-recog.ensures.none c.in-None.is)
