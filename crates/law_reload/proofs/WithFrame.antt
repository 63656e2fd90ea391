-- A function that is reloaded by a description, and then has its frame, does what it did.
use Rattle.std.proofs.Common.{List}
use Rattle.rtx_tree.specs.declared.constants.Constant.{Constant}
use Rattle.rtx_tree.specs.declared.function.Function.{Function}
use Rattle.md_iter.specs.declared.substitution.Instance.{Instance}
use Rattle.md_forms.specs.Forms.{forms_of}
use Rattle.assign.specs.Frame.{IsFrame}
use Rattle.assign.specs.Homes.{AreHomes}
use Rattle.assign.specs.declared.home.HomeOf.{HomeOf}
use Rattle.assign.specs.declared.places.Layout.{Layout}
use Rattle.reload.specs.law_pass_needs.Reloadable.{IsReloadable}
use Rattle.law_reload_moves.specs.law_frame.Keeps.{KeepsInFrame}
use Rattle.law_reload_moves.proofs.law_frame.Laid.{laid_out}
use Rattle.reload.specs.Windows.{HasWindows}
use Rattle.law_reload.specs.Keeps.{KeepsUnderHomes, KeepsWithFrame}
use Rattle.law_reload.proofs.Composing.{keeps_with_frame}
use Rattle.law_reload.proofs.Linked.{reloaded_keeps}
use Rattle.law_reload.proofs.SoundPatterns.{patterns_are_sound}

module _ (constants : List Constant) (forms : List Instance) (f g : Function) (homes : List HomeOf)
    (layout : Layout) (are : AreHomes f homes) (frame : IsFrame f homes layout)
    (is : IsReloadable f)
    (windows : HasWindows (forms_of constants forms) homes layout f g) where
  -- in a frame that others make
  pub described_keeps : KeepsUnderHomes f layout g
  described_keeps = reloaded_keeps (forms_of constants forms) (patterns_are_sound constants forms) f
      g homes
      layout are frame is windows

  -- in its own frame
  pub described_with_frame : (h : Function) → KeepsInFrame g layout h → KeepsWithFrame f layout h
  described_with_frame h framed =
      keeps_with_frame f g h layout (laid_out f homes layout frame) described_keeps framed
