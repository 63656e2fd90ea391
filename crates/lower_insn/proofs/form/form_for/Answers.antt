use Rattle.std.proofs.Common.{◌≡◌, IfOk, ap, subst, ◌∙◌}
use Rattle.md_match.specs.Pattern.{Ops}
use Rattle.lower_insn.specs.Plan.{first_form, numbered}
use Rattle.lower_insn.proofs.form.form_for.Goals as goal

pub returns : goal.returns
returns c =
    subst (λ (o : Ops). IfOk c.first_form.result (λ form. form ≡ first_form c.args.desc.now c.args.standard.now.name o)) (c.in_ok-operands.ensures ∙ ap numbered c.as_slice.ensures.value)
    c.first_form.ensures
