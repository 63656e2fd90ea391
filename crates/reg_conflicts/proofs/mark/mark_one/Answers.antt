use Rattle.std.proofs.Common.{◌||◌, ◌&&◌, eqb, ap, ◌∙◌}
use Rattle.reg_rows.specs.Row.{has}
use Rattle.reg_rows.specs.Table.{has_at}
use Rattle.reg_conflicts.proofs.MarkLaws.{flipped, or_assoc}
use Rattle.reg_conflicts.proofs.mark.mark_one.Goals as goal

pub returns-clause-each : goal.returns-clause-each
returns-clause-each c x y =
    let set = c.args.set.now in
    let back = has set x && eqb c.args.reg y in
    c.in_ok-mark_others.ensures.each x y ∙
    (ap (λ b. b || back) (c.in_ok-mark_own.ensures.each x y ∙ ap (λ b. has_at c.args.rows.now x y || b) (flipped x c.args.reg (has set y))) ∙
    or_assoc (has_at c.args.rows.now x y) (has set y && eqb c.args.reg x) back)
