use Rattle.std.proofs.Common.{◌*◌, ◌^◌, ◌<◌, ◌≤◌, take}
use Rattle.std.specs.Prelude.{All}
use Rattle.reg_rows.proofs.row.width_of.Given as goal

abbrev pub invariant-loop-reg : goal.invariant-loop-reg
invariant-loop-reg l = record {
  from : l.least ≤ l.width;
  small : l.width ≤ 2 ^ 26;
  room : All (λ reg. reg < 64 * l.width) (take l.reg-index l.regs);
}
