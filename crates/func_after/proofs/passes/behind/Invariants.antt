use Rattle.std.proofs.Common.{drop}
use Rattle.func_after.proofs.PassesLaws.{Makes}
use Rattle.func_after.specs.After.{as_read, up_to}
use Rattle.func_after.proofs.passes.behind.Given as goal

abbrev pub invariant-loop-next : goal.invariant-loop-next
invariant-loop-next l =
    Makes l.desc (up_to l.pass l.next-items) (as_read l.f) l.made (up_to l.pass (drop l.next-index l.next-items))
