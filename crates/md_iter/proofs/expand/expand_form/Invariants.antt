use Rattle.std.proofs.Common.{◌≡◌, ◌++◌, take, map}
use Rattle.md_iter.specs.Choice.{choices, iterators_of}
use Rattle.md_iter.specs.Substitution.{form_under}
use Rattle.md_iter.proofs.expand.expand_form.Given as goal

abbrev pub invariant-loop-at : goal.invariant-loop-at
invariant-loop-at l = l.forms ≡ l.initial.forms ++ map (form_under l.definitions l.form) (take l.at (choices (iterators_of l.definitions.iterators l.form)))
