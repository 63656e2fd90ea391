use Rattle.std.proofs.Common.{arith}
use Rattle.gen_emit.proofs.Nodes.{one_of, two_of, three_of, is_end}
use Rattle.gen_emit.proofs.layout.last_parts.Goals as goal

pub returns-then-count-eq1-clause-trees : goal.returns-then-count-eq1-clause-trees
returns-then-count-eq1-clause-trees c =
    one_of c.args.heads.now c.args.at c.before-second.result (is_end c.args.heads.now c.args.at c.args.at c.if-at-eq0.false (omega arith) c.requires.within) c.before-second.ensures c.args.count c.if-count-eq0.false c.then-count-eq1.either

pub returns-then-count-eq2-clause-trees : goal.returns-then-count-eq2-clause-trees
returns-then-count-eq2-clause-trees c =
    two_of c.args.heads.now c.args.at c.before-second.result (is_end c.args.heads.now c.args.at c.args.at c.if-at-eq0.false (omega arith) c.requires.within) c.before-second.ensures
    c.before-third.result (is_end c.args.heads.now c.args.at c.before-second.result c.if-second-eq0.false c.before-second.ensures.back c.requires.within) c.before-third.ensures
    c.args.count c.if-count-eq0.false c.if-count-eq1.false c.then-count-eq2.either

pub returns-clause-trees : goal.returns-clause-trees
returns-clause-trees c =
    three_of c.args.heads.now c.args.at c.before-second.result (is_end c.args.heads.now c.args.at c.args.at c.if-at-eq0.false (omega arith) c.requires.within) c.before-second.ensures
    c.before-third.result (is_end c.args.heads.now c.args.at c.before-second.result c.if-second-eq0.false c.before-second.ensures.back c.requires.within) c.before-third.ensures
    c.args.count (omega (arith, c.requires.few, c.if-count-eq0.false, c.if-count-eq1.false, c.if-count-eq2.false))
    (is_end c.args.heads.now c.args.at c.before-third.result c.if-third-eq0.false (omega (arith, c.before-second.ensures.back, c.before-third.ensures.back)) c.requires.within)
