use Rattle.std.proofs.Common.{rules}
use Rattle.md_constr.proofs.table.Constraints.of.Goals as goal

pub returns : goal.returns
returns c = record {
  names = λ accepts name x. search (rules, c.in_ok-meanings_of.ensures accepts name x);
  rows = search rules;
}
