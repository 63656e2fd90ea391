use Rattle.std.proofs.Common.{nat_lt, refl}
use Rattle.lint_source.proofs.ArrangedLaws.{by_itself}
use Rattle.lint_source.proofs.arranged.is_form.Goals as goal

pub returns : goal.returns
returns c = by_itself c.args.tree.now c.from_ref.result.now c.in_ok-count.count (nat_lt 0 c.in_ok-count.count) c.from_ref.ensures.value c.in_ok-count.ensures refl
