use Rattle.std.proofs.Common.{◌≡◌, map, None, rules, subst, ◌∙◌}
use Rattle.rtx_tree.specs.declared.function.Insn.{Insn}
use Rattle.rtx_tree.specs.declared.function.Function.{Function}
use Rattle.new_insns.specs.Replaced.{window}
use Rattle.md_window.specs.Windows.{NeverMatchesAt}
use Rattle.peep2.specs.machine.Steps.{RunsTo, RunTold, RewritesTold}
use Rattle.peep2.proofs.Made.{stands_none, none_fits, made_none}
use Rattle.peep2.proofs.form.rewrite_by.Goals as goal

pub returns-in_default-clause-told : goal.returns-in_default-clause-told
returns-in_default-clause-told c =
    let a = c.args in
    let none : c.in_ok-end.field-0 ≡ None = search rules in
    stands_none a.desc.now a.chain.now a.place a.form c.window_size-size.result c.window_size-size.ensures (subst (RunTold a.chain.now a.place c.window_size-size.result) none c.in_ok-end.ensures.told)

pub returns-then-not-branch-clause-told : goal.returns-then-not-branch-clause-told
returns-then-not-branch-clause-told c =
    let a = c.args in
    let runs : RunsTo a.chain.now a.place c.window_size-size.result c.in-Some.end = subst (RunTold a.chain.now a.place c.window_size-size.result) c.in-Some.is c.in_ok-end.ensures.told in
    none_fits a.desc.now a.chain.now a.place a.form c.window_size-size.result c.window_size-size.ensures c.in-Some.end runs.end_is
    (subst (λ (f : Function). NeverMatchesAt a.desc.now (map (λ (i : Insn). i.pattern) (window f a.place c.in-Some.end)) a.form) c.run_end.ensures.same
    (c.in_ok-fits_between.ensures.never c.if-not-branch.true))

pub returns-in-None-clause-told : goal.returns-in-None-clause-told
returns-in-None-clause-told c =
    let a = c.args in
    made_none a.desc.now a.chain.now a.place a.form c.window_size-size.result c.window_size-size.ensures
    (subst (λ (f : Function). RewritesTold a.desc.now f a.place c.window_size-size.result a.form None) (c.fits_between.ensures.same ∙ c.run_end.ensures.same)
    (subst (RewritesTold a.desc.now c.fits_between.new.chain a.place c.window_size-size.result a.form) c.in-None.is c.in_ok-sequence.ensures.told))
