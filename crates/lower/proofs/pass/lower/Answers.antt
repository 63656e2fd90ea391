use Rattle.std.proofs.Common.{◌≡◌, ◌≤◌, Ok, length, sym, ap, subst, ◌∙◌, arith}
use Rattle.rtx_tree.specs.declared.function.Function.{Function}
use Rattle.lower.specs.Lower.{LowerComes}
use Rattle.lower.proofs.Places.{ends}
use Rattle.lower.proofs.pass.lower.Goals as goal

pub returns-clause-gives : goal.returns-clause-gives
returns-clause-gives c =
    let past : length c.loop-place.chain.insns ≤ c.loop-place.place = omega (arith, c.len.ensures, c.loop-place-test.false) in
    subst (λ (g : Function). LowerComes c.args.desc.now c.args.f (Ok g)) (sym c.in_ok-into_function.ensures)
    (ends c.args.desc.now c.args.f c.loop-place.chain c.loop-place.place c.loop-place.invariant past)
