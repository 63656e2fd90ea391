use Rattle.std.proofs.Common.{◌/◌, ◌%◌, ◌||◌, ◌&&◌, eqb, get_or, sym, ap, ◌∙◌, arith, rules}
use Rattle.std.proofs.lemmas.Bool.{and_parts, eqb-true}
use Rattle.reg_rows.specs.Row.{has}
use Rattle.reg_rows.specs.Table.{has_at}
use Rattle.live.proofs.SetLaws.{word_passed, all_passed}
use Rattle.reg_conflicts.proofs.MarkLaws.{other_joined}
use Rattle.reg_conflicts.proofs.mark.mark_others.Goals as goal

pub loop-other-preserved-then-is_passed : goal.loop-other-preserved-then-is_passed
loop-other-preserved-then-is_passed c =
    let set = c.args.set.now in
    let k = c.loop-other.other in
    let both = and_parts (eqb (k % 64) 0) (eqb (get_or set (k / 64) 0) 0) (sym c.if-is_passed.ensures) in
    record {
      sparse = c.loop-other.invariant.sparse;
      each = λ x y. c.loop-other.invariant.each x y ∙ ap (λ b. has_at c.args.rows.now x y || (b && eqb c.args.reg y)) (word_passed set k x (eqb-true (k % 64) 0 both.0) (eqb-true (get_or set (k / 64) 0) 0 both.1));
    }

pub loop-other-preserved : goal.loop-other-preserved
loop-other-preserved c = record {
  sparse = search rules;
  each = λ x y. other_joined x c.loop-other.other _ (has c.args.set.now x) (eqb c.args.reg y) _ _ (c.loop-other.invariant.each x y) (c.in_ok-mark_other.ensures.each x y);
}

pub returns-clause-each : goal.returns-clause-each
returns-clause-each c x y =
    c.loop-other.invariant.each x y ∙ ap (λ b. has_at c.args.rows.now x y || (b && eqb c.args.reg y)) (all_passed c.args.set.now c.loop-other.other x (omega (arith, c.width-end.ensures)))
