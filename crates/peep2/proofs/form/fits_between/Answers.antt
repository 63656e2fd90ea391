use Rattle.std.proofs.Common.{◌≡◌, false, List, map, ap, subst, ◌∙◌}
use Rattle.std.specs.Prelude.{IfOk}
use Rattle.rtx_tree.specs.declared.function.Insn.{Insn}
use Rattle.rtx_tree.specs.declared.function.Function.{Function}
use Rattle.new_insns.specs.Replaced.{window}
use Rattle.md_window.specs.Windows.{NeverMatchesAt}
use Rattle.peep2.proofs.form.fits_between.Goals as goal

pub returns-clause-never : goal.returns-clause-never
returns-clause-never c =
    let a = c.args in
    let there = c.as_slice.ensures.value ∙ (c.in_ok-insns.ensures ∙ ap (λ (f : Function). window f a.place a.end) c.move_gap.ensures) in
    subst (λ (insns : List Insn). IfOk c.has_shape.result (λ fits. fits ≡ false → NeverMatchesAt a.desc.now (map (λ (i : Insn). i.pattern) insns) a.form)) there c.has_shape.ensures
