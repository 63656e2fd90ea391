use Rattle.std.proofs.Common.{◌≡◌, true, false, rules, subst}
use Rattle.md_desc.specs.Recog.{IsChosen, NoneMatchesOut}
use Rattle.md_dfa.specs.Pipeline.{reservation_of}
use Rattle.form_needs.specs.Needs.{needs_form}
use Rattle.pipe_uses.specs.Takes.{nothing, taken_by, Takes}
use Rattle.pipe_uses.proofs.TakesLaws.{takes_if}
use Rattle.pipe_uses.proofs.uses.takes.Goals as goal

pub returns-then-not-needs_form-clause-takes : goal.returns-then-not-needs_form-clause-takes
returns-then-not-needs_form-clause-takes c =
    let free : needs_form c.args.insn.now ≡ false = search rules in
    takes_if c.args.desc.now c.args.pipe.now c.args.insn.now nothing c.nothing.result (Takes.note free) c.nothing.ensures

pub returns-in-Some-clause-takes : goal.returns-in-Some-clause-takes
returns-in-Some-clause-takes c =
    let needs : needs_form c.args.insn.now ≡ true = search rules in
    let chosen = c.in-Some.chosen in
    let is = subst (λ f. IsChosen c.args.desc.now f c.args.insn.now.pattern chosen) c.output_facts.ensures ((c.in_ok-chosen.ensures.chosen chosen).0 c.in-Some.is) in
    takes_if c.args.desc.now c.args.pipe.now c.args.insn.now (taken_by c.args.pipe.now (reservation_of c.args.pipe.now c.args.desc.now chosen.form chosen.alternative)) c.taken_for.result (Takes.chosen chosen needs is) c.taken_for.ensures

pub returns-clause-takes : goal.returns-clause-takes
returns-clause-takes c =
    let needs : needs_form c.args.insn.now ≡ true = search rules in
    let none = subst (λ f. NoneMatchesOut c.args.desc.now f c.args.insn.now.pattern) c.output_facts.ensures (c.in_ok-chosen.ensures.none c.in-None.is) in
    takes_if c.args.desc.now c.args.pipe.now c.args.insn.now nothing c.nothing-in-None.result (Takes.unmatched needs none) c.nothing-in-None.ensures
