-- What a function comes to with a frame keeps what the function does, its labels and barriers, and
-- that uids differ.
use Rattle.std.proofs.Common.{◌≡◌, List, Ok, refl, subst}
use Rattle.rtx_tree.specs.declared.function.Function.{Function}
use Rattle.md_forms.specs.declared.form.Entry.{Entry}
use Rattle.law_pass_needs.specs.Left.{SameMarks}
use Rattle.law_pass_needs.specs.Reloadable.{UidsDiffer}
use Rattle.assign.specs.declared.places.Layout.{Layout}
use Rattle.law_frame.specs.law_window_replaced.Natural.{RegistersAreNatural}
use Rattle.law_frame.specs.Frame.{IsFramed}
use Rattle.law_frame.specs.Keeps.{IsLaidOut, KeepsInFrame}
use Rattle.law_frame.proofs.Framed.{keeps_in_frame}
use Rattle.frame.specs.Framed.{Answer, FrameComes}
use Rattle.frame.proofs.Marks.{framed_marks}
use Rattle.frame.proofs.Uids.{framed_uids}

module _ (forms : List Entry) (f g : Function) (layout : Layout) where
  framed_by : (a : Answer) → a ≡ Ok g → FrameComes forms f layout a → IsFramed layout f g
  framed_by _ is (FrameComes.large large) = absurd (let no : ⊥ = cc in no)
  framed_by _ is (FrameComes.unmatched h i small framed first) = absurd (let no : ⊥ = cc in no)
  framed_by _ is (FrameComes.framed h small framed matched) = let same : h ≡ g = cc in
      subst (IsFramed layout f) same framed

  -- what it comes to, it is with a frame
  pub is_framed : FrameComes forms f layout (Ok g) → IsFramed layout f g
  is_framed comes = framed_by (Ok g) refl comes

  pub frame_keeps : IsLaidOut f.locals layout → RegistersAreNatural f →
      FrameComes forms f layout (Ok g) → KeepsInFrame f layout g
  frame_keeps out natural comes = keeps_in_frame f layout g out natural (is_framed comes)

  pub frame_marks : FrameComes forms f layout (Ok g) → SameMarks f g
  frame_marks comes = framed_marks layout f g (is_framed comes)

  pub frame_uids : UidsDiffer f → FrameComes forms f layout (Ok g) → UidsDiffer g
  frame_uids differ comes = framed_uids layout f g (is_framed comes) differ
