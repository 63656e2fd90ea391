use Rattle.std.proofs.Common.{◌≤◌, drop}
use Rattle.lint_source.proofs.RunLaws.{Goes}
use Rattle.lint_source.proofs.run.runs_in.Given as goal

abbrev pub invariant-loop-part : goal.invariant-loop-part
invariant-loop-part l = record {
  within : l.before ≤ l.count;
  goes : Goes l.fn.trees l.parts (drop l.part-index l.parts) l.runs l.before;
}
