use Rattle.std.proofs.Common.{◌≡◌, drop}
use Rattle.lisp_read.specs.Head.{is_volatile}
use Rattle.lisp_read.proofs.head.is_volatile.Given as goal

abbrev pub invariant-loop-b : goal.invariant-loop-b
invariant-loop-b l = is_volatile (drop l.b-index l.flags) ≡ is_volatile l.flags
