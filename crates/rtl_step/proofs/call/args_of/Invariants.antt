use Rattle.std.proofs.Common.{◌≡◌, ◌++◌, drop}
use Rattle.std.specs.Prelude.{option_map}
use Rattle.rtl_step.specs.Call.{args_of}
use Rattle.rtl_step.proofs.call.args_of.Given as goal

abbrev pub invariant-loop-arg : goal.invariant-loop-arg
invariant-loop-arg l = option_map (λ rest. l.args ++ rest) (args_of l.regs (drop l.arg-index l.uses)) ≡ args_of l.regs l.uses
