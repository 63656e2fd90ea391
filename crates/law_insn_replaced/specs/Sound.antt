-- What holds of a function between the passes before registers have homes, and what a pass keeps:
-- GCC Internals, "Passes and Files of the Compiler" and "Registers and Memory".
use Rattle.rtx_tree.specs.declared.function.Function.{Function}
use Rattle.law_function_kept.specs.Keeps.{Keeps}
use Rattle.law_pass_needs.specs.Ready.{AreReady}
use Rattle.law_pass_needs.specs.Reloadable.{IsReloadable}
use Rattle.law_pass_needs.specs.Left.{SameMarks}

-- what lines ask of each instruction, and that it can be reloaded
pub record IsSound (f : Function) : Type 0 where
  pub ready : AreReady f
  pub reloadable : IsReloadable f

-- The second does what the first does, is sound, and has the labels and barriers of the first.
pub record PassKeeps (f g : Function) : Type 0 where
  pub keeps : Keeps f g
  pub sound : IsSound g
  pub same : SameMarks f g
