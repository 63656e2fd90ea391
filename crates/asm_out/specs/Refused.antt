-- How long an assembly may be.
use Rattle.std.specs.Prelude.{ℕ, ◌+◌}
use Rattle.rtx_tree.specs.declared.limit.Limit.TheVariants.{Output}
use Rattle.pass_refusal.specs.declared.refusal.PassRefusal.{PassRefusal}
use Rattle.pass_refusal.specs.declared.refusal.PassRefusal.TheVariants as refusal
use Rattle.rtx_tree.specs.Limit.{most_output}

abbrev pub too_long : PassRefusal
too_long = refusal.Limit Output (most_output + 1)
