use Rattle.std.proofs.Common.{◌++◌, length, map, replicate, None, ap, sym, subst, refl, ◌∙◌, arith, zero-add}
use Rattle.std.proofs.lemmas.List.{length-map}
use Rattle.node_pool.specs.machine.Links.{value_of, Links}
use Rattle.node_pool.proofs.Grown.{all_free}
use Rattle.node_pool.proofs.pool.Pool.clear.Goals as goal

pub invariant_of-self : goal.invariant_of-self
invariant_of-self g c =
    all_free c.add_free-self-inside.new.slots.items c.add_free-self-inside.result c.len-count.result
    (c.add_free-self-inside.ensures.values ∙ ap (λ l. map value_of l ++ replicate c.len-count.result None) c.clear.ensures.items)
    (subst (λ n. Links c.add_free-self-inside.new.slots.items n c.add_free-self-inside.result) (zero-add c.len-count.result) (c.add_free-self-inside.ensures.links 0 refl))
    (omega (arith, c.len-count.ensures, c.self.inside.slots.ok.0, c.self.invariant.fit))

pub returns : goal.returns
returns g c =
    c.add_free-self-inside.ensures.values ∙
    (ap (λ l. map value_of l ++ replicate c.len-count.result None) c.clear.ensures.items ∙
    ap (λ n. replicate n None)
    (c.len-count.ensures ∙ (c.self.inside.slots.ok.0 ∙ (sym (length-map c.self.inside.slots.items value_of) ∙ ap length c.self.view_is))))
