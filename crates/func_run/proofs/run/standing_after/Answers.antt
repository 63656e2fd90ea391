use Rattle.std.proofs.Common.{◌≡◌, ℕ, ◌<◌, sym, ap, subst, ◌∙◌, arith, IfOk}
use Rattle.func_run.specs.declared.outcome.Standing.{Standing}
use Rattle.func_run.specs.declared.outcome.Standing.TheVariants as standings
use Rattle.func_run.proofs.Stands.{stands_first, stands_goes, stands_ends, stands_last}
use Rattle.func_run.proofs.run.standing_after.Goals as goal

pub loop-i-init : goal.loop-i-init
loop-i-init c = stands_first c.args.f.now c.args.start.now c.args.world.now c.args.n c.in_ok-state.state c.new.result c.in_ok-state.ensures

pub loop-i-preserved : goal.loop-i-preserved
loop-i-preserved c =
    let less : c.loop-i._i < c.args.n = omega arith in
    stands_goes c.args.world.now c.args.f.now c.args.start.now.visible _ c.args.n c.loop-i._i c.loop-i.state c.step_insn.new.state c.in_ok-end.end less
    (sym c.goes_on.ensures ∙ c.if-not-goes_on.false) c.in_ok-end.ensures.step c.loop-i.invariant

pub returns-then-not-goes_on : goal.returns-then-not-goes_on
returns-then-not-goes_on c =
    let less : c.loop-i._i < c.args.n = omega arith in
    subst (λ (x : Standing). IfOk c.stood.result (λ s. s ≡ x))
    (stands_ends c.args.world.now c.args.f.now c.args.start.now.visible _ c.args.n c.loop-i._i c.loop-i.state c.step_insn.new.state c.in_ok-end.end less
    (sym c.goes_on.ensures ∙ c.if-not-goes_on.true) c.in_ok-end.ensures.step c.loop-i.invariant) c.stood.ensures

pub returns : goal.returns
returns c =
    ap (λ (calls : ℕ). standings.Running calls) c.len.ensures
    ∙ stands_last c.args.world.now c.args.f.now c.args.start.now.visible _ c.args.n c.loop-i._i c.loop-i.state (omega arith) c.loop-i.invariant
