use Rattle.std.proofs.Common.{refl, inr}
use Rattle.run_refusal.specs.declared.refusal.Refusal.TheVariants as refusal
use Rattle.rtlc_run.proofs.program.report_values.Goals as goal

pub returns-in-Err : goal.returns-in-Err
returns-in-Err g c = record { told = refusal.Memory; status_is = c.out_of_memory.ensures.status; which = inr (refl, c.requires); line = c.out_of_memory.ensures.told }
