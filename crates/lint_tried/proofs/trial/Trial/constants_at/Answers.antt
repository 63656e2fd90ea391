use Rattle.std.proofs.Common.{◌≡◌, ℤ, Bool, List, IfOk, ap, subst, ◌∙◌}
use Rattle.lint_choices.specs.Numbers.{tried_numbers}
use Rattle.lint_tried.specs.Offered as spec
use Rattle.lint_tried.specs.machine.Views.{trial_of}
use Rattle.lint_tried.proofs.trial.Trial.constants_at.Goals as goal

pub returns : goal.returns
returns c =
    subst (λ (ns : List ℤ). IfOk c.tried_numbers.result (λ constants. constants ≡ ns))
    (ap (λ (ns : List ℤ). tried_numbers ns c.args.numbers.now c.as_slice-2.result.now) (c.as_slice.ensures.value ∙ c.in_ok-named.ensures)
    ∙ ap (λ (bs : List Bool). tried_numbers (spec.named_numbers (trial_of c.args.self.now)) c.args.numbers.now bs) (c.as_slice-2.ensures.value ∙ c.in_ok-taken.ensures))
    c.tried_numbers.ensures
