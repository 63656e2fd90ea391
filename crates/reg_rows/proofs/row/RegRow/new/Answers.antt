use Rattle.std.proofs.Common.{◌≡◌, replicate, ap, ◌∙◌, rules}
use Rattle.reg_rows.specs.Row.{has}
use Rattle.reg_rows.proofs.WordLaws.{has_zero}
use Rattle.reg_rows.proofs.row.RegRow.new.Goals as goal

pub returns-clause-none : goal.returns-clause-none
returns-clause-none c other =
    let zeros : c.in_ok-words.words.items ≡ replicate c.args.width 0 = search rules in
    ap (λ words. has words other) zeros ∙ has_zero c.args.width other
