use Rattle.std.proofs.Common.{◌++◌, map, replicate, None, ap, sym, subst, ◌∙◌, arith}
use Rattle.node_pool.specs.machine.Links.{value_of, Links}
use Rattle.node_pool.proofs.Grown.{grown, grown_long}
use Rattle.node_pool.proofs.slot.grow.Goals as goal

pub returns-clause-values : goal.returns-clause-values
returns-clause-values g c =
    c.add_free.ensures.values ∙ ap (λ l. map value_of l ++ replicate c.args.more None) c.reserve.ensures.items

pub returns-clause-linked : goal.returns-clause-linked
returns-clause-linked g c = λ spare are.
    grown c.args.slots.now.items c.add_free.new.slots.items c.args.first spare c.args.more c.add_free.result are
    (returns-clause-values g c)
    (λ free p. c.add_free.ensures.links free (subst (λ l. Links l free c.args.first) (sym c.reserve.ensures.items) p))
    (grown_long c.args.slots.now.items c.add_free.new.slots.items c.args.more c.len.result
    (returns-clause-values g c) (c.len.ensures ∙ c.args.slots.now.ok.0) (omega arith) c.requires)
