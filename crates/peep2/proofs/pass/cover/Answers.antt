use Rattle.std.proofs.Common.{◌≤◌, Ok, length, sym, subst, arith}
use Rattle.rtx_tree.specs.declared.function.Function.{Function}
use Rattle.peep2.specs.Cover.{CoverComes}
use Rattle.peep2.proofs.Places.{ends_there}
use Rattle.peep2.proofs.pass.cover.Goals as goal

pub returns : goal.returns
returns c =
    let past : length c.loop-place.chain.insns ≤ c.loop-place.place = omega (arith, c.len.ensures, c.loop-place-test.false) in
    subst (λ (g : Function). CoverComes c.args.desc.now c.args.f (Ok g)) (sym c.in_ok-into_function.ensures)
    (ends_there c.args.desc.now c.args.f c.loop-place.chain c.loop-place.place c.loop-place.invariant past)
