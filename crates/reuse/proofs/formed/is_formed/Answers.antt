use Rattle.std.proofs.Common.{subst}
use Rattle.md_desc.specs.Recog.{IsFirst, NoneMatches}
use Rattle.reuse.proofs.Found.{none_formed}
use Rattle.reuse.proofs.formed.is_formed.Goals as goal

pub returns-in-Some-clause-some : goal.returns-in-Some-clause-some
returns-in-Some-clause-some c told =
    let m = c.in-Some.field-0 in
    let first = subst (λ f. IsFirst c.args.desc.now f c.args.insn.now.pattern 0 m) c.lower_facts.ensures ((c.in_ok-recog.ensures.first m).0 c.in-Some.is) in
    record { form = m.form; operands = m.operands; matches = first.matches }

pub returns-clause-none : goal.returns-clause-none
returns-clause-none c told = none_formed c.args.desc.now c.args.insn.now (subst (λ f. NoneMatches c.args.desc.now f c.args.insn.now.pattern) c.lower_facts.ensures (c.in_ok-recog.ensures.none c.in-None.is))
