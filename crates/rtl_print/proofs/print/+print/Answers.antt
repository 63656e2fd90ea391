use Rattle.std.proofs.Common.{arith}
use Rattle.std.proofs.lemmas.Grind.{common_steps}
use Rattle.rtl_print.proofs.Texts.{printed_out}
use Rattle.rtl_print.proofs.print.+print.Goals as goal

pub print-returns : goal.print-returns
print-returns t c = rw (printed_out c.args.x.now) (grind (arith, common_steps))
