use Rattle.std.proofs.Common.{◌∙◌, ap}
use Rattle.func_run.specs.Run.{with_all, entry_values}
use Rattle.func_run.proofs.run.entry_regs.Goals as goal

pub returns : goal.returns
returns c = c.in_ok-set_all.ensures ∙ (ap (λ entries. with_all entries c.new-regs.result) (c.as_slice.ensures ∙ c.entry_values.ensures) ∙ ap (with_all (entry_values c.args.start.now)) c.new-regs.ensures)
