use Rattle.std.proofs.Common.{List, ap, ◌∙◌}
use Rattle.lint_made.specs.declared.candidate.Candidate.{Candidate}
use Rattle.lint_tried.specs.Tried as spec
use Rattle.lint_tried.specs.machine.Views.{trial_of}
use Rattle.lint_tried.proofs.MadeLaws.{instances_made}
use Rattle.lint_tried.proofs.trial.Trial.instances.Goals as goal

pub returns : goal.returns
returns c =
    instances_made (trial_of c.args.self.now) c.args.tested.now c.as_slice.result.now c.in_ok-candidates.candidates c.in_ok-base.base c.in_ok-tried.tried
    (c.as_slice.ensures.value ∙ c.in_ok-givers.ensures)
    c.in_ok-candidates.ensures
    (c.in_ok-base.ensures ∙ ap (λ (cs : List (List Candidate)). spec.base_of (trial_of c.args.self.now) cs) c.as_slice-3.ensures.value)
    (c.in_ok-tried.ensures ∙ ap (λ (cs : List (List Candidate)). spec.tried_round (trial_of c.args.self.now) cs c.in_ok-base.base) c.as_slice-5.ensures.value)
