-- What the code's own types are in the words of the definitions.
use Rattle.lint_tried.specs.declared.trial.Trial.{Trial}
use Rattle.lint_tried.specs.Trial as spec

abbrev pub trial_of : Trial → spec.Trial
trial_of t = record { forms = t.description.now; form = t.form; alternative = t.alternative; says = t.says.now; pattern = t.pattern.now }
