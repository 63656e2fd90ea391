use Rattle.std.proofs.Common.{◌≡◌, filter, map}
use Rattle.md_iter.specs.Definition.{is_form}
use Rattle.lint_source.specs.machine.Steps.{is_definition}
use Rattle.lint_source.proofs.arranged.arrange.Given as goal

abbrev pub invariant-loop-tree : goal.invariant-loop-tree
invariant-loop-tree l = record {
  definitions : l.definitions ≡ filter is_definition l.yielded;
  forms : l.forms ≡ filter is_form l.yielded;
  are_forms : l.are_forms ≡ map is_form l.yielded;
}
