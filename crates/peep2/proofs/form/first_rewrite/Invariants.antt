use Rattle.std.proofs.Common.{◌≡◌, ◌-◌, length}
use Rattle.peep2.proofs.Forms.{NoneBelow}
use Rattle.peep2.proofs.form.first_rewrite.Given as goal

abbrev pub invariant-loop-form : goal.invariant-loop-form
invariant-loop-form l = record {
  same : l.chain ≡ l.fn.chain;
  none : NoneBelow l.desc l.fn.chain l.place l.from;
}

abbrev pub decreases-loop-form : goal.decreases-loop-form
decreases-loop-form l = length l.desc - l.from
