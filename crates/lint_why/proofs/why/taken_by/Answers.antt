use Rattle.lint_why.proofs.WhyLaws.{by_nothing, by_same, by_other}
use Rattle.lint_why.proofs.why.taken_by.Goals as goal

pub returns-in-None : goal.returns-in-None
returns-in-None c = by_nothing _ _ _ _ _ c.output_facts-facts.ensures c.in-None.is c.in_ok-recog_out.ensures.none

pub returns-in-Some : goal.returns-in-Some
returns-in-Some c = by_same _ _ _ _ _ c.output_facts-facts.ensures _ c.in-Some.is c.in_ok-recog_out.ensures.chosen c.if-form.true

pub returns : goal.returns
returns c = by_other _ _ _ _ _ c.output_facts-facts.ensures _ c.in-Some.is c.in_ok-recog_out.ensures.chosen c.if-form.false
