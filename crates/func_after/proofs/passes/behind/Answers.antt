use Rattle.std.proofs.Common.{arith, sym, ◌∙◌}
use Rattle.pass_name.specs.declared.pass.Pass.TheVariants.{Read}
use Rattle.func_after.specs.After.{as_read, up_to}
use Rattle.func_after.proofs.PassesLaws.{makes_last}
use Rattle.func_after.proofs.passes.behind.Goals as goal

pub returns-then-is_pass : goal.returns-then-is_pass
returns-then-is_pass c =
    rw (← c.passes-next-items.ensures)
    (makes_last c.args.pass c.passes-next-items.result.now c.loop-next.next-index Read (omega arith) c.args.desc.now
    (up_to c.args.pass c.passes-next-items.result.now) (as_read c.args.f.now) c.loop-next.made c.loop-next.invariant
    c.in_ok-made-2.made c.in_ok-made-2.ensures (sym c.is_pass.ensures ∙ c.if-is_pass.true))
