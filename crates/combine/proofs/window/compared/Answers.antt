use Rattle.std.proofs.Common.{length, ap, arith}
use Rattle.combine.proofs.Windows.{fused_short}
use Rattle.combine.proofs.window.compared.Goals as goal

pub is_same-requires-clause-after : goal.is_same-requires-clause-after
is_same-requires-clause-after c =
    let short = fused_short c.args.x c.args.window.now in
    let same = ap length c.in_ok-fused_window.ensures in
    omega (arith, short, same, c.requires)
