use Rattle.std.proofs.Common.{length, refl, ap, subst, ◌∙◌}
use Rattle.rtx_tree.specs.declared.function.Function.{Function}
use Rattle.combine.specs.Combine.{Steps}
use Rattle.combine.proofs.Next.{combined_by}
use Rattle.combine.proofs.pass.combine.Goals as goal

pub returns-clause-combined : goal.returns-clause-combined
returns-clause-combined c =
    let whole = c.combine_chain.ensures.whole in
    combined_by c.args.desc.now whole.0 c.args.f c.combine_chain.new.chain c.combine_chain.new.chain c.in_ok-into_function.field-0 c.len-long.result c.len.result
    (subst (λ g. Steps c.args.desc.now whole.0 g c.combine_chain.new.chain) c.of-chain.ensures whole.1)
    refl c.in_ok-into_function.ensures c.in_ok-combine_chain.ensures.none
    (c.len-long.ensures ∙ ap (λ (g : Function). length g.insns) c.of-chain.ensures) c.len.ensures
