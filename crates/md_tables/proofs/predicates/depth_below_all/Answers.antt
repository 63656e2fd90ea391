use Rattle.std.proofs.Common.{◌+◌, sym, ap, ◌∙◌, rules, ltb}
use Rattle.md_tables.specs.Predicates as spec
use Rattle.md_tables.specs.machine.Depths.{is_below, below}
use Rattle.md_tables.proofs.DepthLaws.{one_fails, all_next, max_less}
use Rattle.md_tables.proofs.predicates.depth_below_all.Goals as goal

pub returns-in-None : goal.returns-in-None
returns-in-None c = λ n within.
    let known = spec.is_known c.args.predicates.now (below n c.args.depths.now) in
    one_fails known c.args.names.now c.loop-name.name-index c.name-item.result (search rules) c.name-item.is
    (sym (ap (is_below (n + 1)) c.in-None.is) ∙ c.depth_below.ensures n within ∙ ap known c.bytes.ensures)

pub loop-name-preserved : goal.loop-name-preserved
loop-name-preserved c = λ n within.
    let known = spec.is_known c.args.predicates.now (below n c.args.depths.now) in
    all_next known c.args.names.now c.loop-name.name-index c.name-item.result (ltb c.loop-name.deepest (n + 1)) (ltb c.in-Some.depth (n + 1)) (ltb c.max-deepest.result (n + 1)) (search rules) c.name-item.is
    (sym (ap (is_below (n + 1)) c.in-Some.is) ∙ c.depth_below.ensures n within ∙ ap known c.bytes.ensures) (c.loop-name.invariant n within)
    (ap (λ m. ltb m (n + 1)) c.max-deepest.ensures ∙ max_less c.loop-name.deepest c.in-Some.depth (n + 1))
