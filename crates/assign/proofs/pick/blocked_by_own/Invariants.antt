use Rattle.std.proofs.Common.{◌≡◌, vec_len}
use Rattle.assign.specs.machine.Picked.{AreAlike}
use Rattle.assign.proofs.PickLaws.{AreOwn}
use Rattle.assign.proofs.pick.blocked_by_own.Given as goal

abbrev pub invariant-loop-hard : goal.invariant-loop-hard
invariant-loop-hard l = record {
  long : vec_len l.blocked ≡ 64;
  alike : AreAlike l.rows l.blocked.items;
  own : AreOwn l.rows l.hard l.blocked.items;
}
