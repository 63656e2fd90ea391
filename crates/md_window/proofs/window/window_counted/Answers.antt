use Rattle.std.proofs.Common.{map, ap, ◌∙◌}
use Rattle.rtx_tree.specs.declared.function.Insn.{Insn}
use Rattle.md_desc.specs.md_pred.machine.Table.{accepted_by}
use Rattle.md_window.proofs.Tabled.{here_as}
use Rattle.md_window.proofs.window.window_counted.Goals as goal

pub returns : goal.returns
returns g c =
    here_as c.args.desc.now c.forms.result.now c.as_slice.result.now (accepted_by c.preds.result.now) c.args.facts.now (map (λ p. p.now) c.as_slice-2.result.now)
    (map (λ (i : Insn). i.pattern) c.args.insns.now) c.args.form c.match_at.result
    c.as_slice.ensures.value c.forms.ensures.forms c.preds.ensures (ap (map (λ p. p.now)) c.as_slice-2.ensures.value ∙ c.in_ok-patterns.ensures) c.match_at.ensures.here
