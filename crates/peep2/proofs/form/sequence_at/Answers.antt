use Rattle.std.proofs.Common.{map, ap, ◌∙◌}
use Rattle.rtx_tree.specs.declared.function.Insn.{Insn}
use Rattle.rtx_tree.specs.declared.function.Function.{Function}
use Rattle.new_insns.specs.Replaced.{window}
use Rattle.peep2.proofs.Made.{told_there_ok}
use Rattle.peep2.proofs.form.sequence_at.Goals as goal

pub returns-clause-told : goal.returns-clause-told
returns-clause-told c =
    let a = c.args in
    let there = c.as_slice.ensures.value ∙ (c.in_ok-insns.ensures ∙ (ap (λ (f : Function). window f a.place a.end) (c.move_gap.ensures ∙ c.in_ok-facts.ensures.same) ∙ ap (window a.chain.now a.place) c.requires.runs.end_is)) in
    told_there_ok a.desc.now a.chain.now a.place a.count a.form c.in_ok-facts.facts (map (λ (i : Insn). i.pattern) c.as_slice.result.now) c.sequence_of.result
    c.requires.runs.run c.in_ok-facts.ensures.known (ap (map (λ (i : Insn). i.pattern)) there) c.sequence_of.ensures
