use Rattle.std.proofs.Common.{◌-◌}
use Rattle.md_constr.specs.md_attr.Alternatives.{alternatives_of}
use Rattle.md_desc.proofs.Lowest.{NoneBelow}
use Rattle.md_desc.proofs.description.Description.lowest.Given as goal

abbrev pub invariant-loop-form : goal.invariant-loop-form
invariant-loop-form l = NoneBelow l.self l.form l.operands l.alternative

abbrev pub decreases-loop-form : goal.decreases-loop-form
decreases-loop-form l = alternatives_of l.self l.form - l.alternative
