use Rattle.std.proofs.Common.{◌≡◌, ◌++◌, ◌-◌}
use Rattle.lint_sentences.specs.Instance as spec
use Rattle.lint_sentences.specs.Each.{each_from}
use Rattle.lint_sentences.proofs.instance.print_shared_with.Given as goal

abbrev pub invariant-loop-first : goal.invariant-loop-first
invariant-loop-first l = l.out.items ++ each_from (spec.shared_by l.operands l.second) l.first (l.second - l.first) ≡ l.fn.out.items ++ each_from (spec.shared_by l.operands l.second) 0 l.second
