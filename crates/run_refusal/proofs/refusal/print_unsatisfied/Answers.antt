use Rattle.std.proofs.Common.{codes}
use Rattle.std.proofs.lemmas.Result.{on_ok_weaker}
use Rattle.run_refusal.proofs.Joined.{joined}
use Rattle.run_refusal.proofs.refusal.print_unsatisfied.Goals as goal

pub returns : goal.returns
returns c =
    on_ok_weaker c.print_text-3.result
    (λ is. joined c.args.out.now.items c.print_text.new.out.items c.print_text-2.new.out.items c.print_text-3.new.out.items (codes "unsatisfied ") c.args.form.now (codes ": ") c.in_ok-print_text.ensures
    (rw c.bytes.ensures at c.in_ok-print_text-2.ensures) is) c.print_text-3.ensures
