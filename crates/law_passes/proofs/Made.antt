-- All passes together, by the relations of the passes: lines that stand for the function behind all of them have the behaviour of the one
-- that was read.
use Rattle.std.proofs.Common.{◌≡◌, ℕ, ◌≤◌, arith, List, Ok, sym, ap, subst, ◌∙◌}
use Rattle.rtx_tree.specs.declared.constants.Constant.{Constant}
use Rattle.rtx_tree.specs.declared.function.Function.{Function}
use Rattle.md_iter.specs.declared.substitution.Instance.{Instance}
use Rattle.md_forms.specs.Forms.{forms_of}
use Rattle.rv_text.specs.declared.line.CodeItem.{CodeItem}
use Rattle.same_behaviour.specs.Same.{Same}
use Rattle.law_function_kept.specs.Keeps.{Keeps}
use Rattle.law_insn_replaced.specs.Sound.{PassKeeps}
use Rattle.assign.proofs.PlaceLaws.{IsFrame-layout_of}
use Rattle.assign.specs.Frame.{layout_of, saved_of, slots_of, frame_size, IsFrame}
use Rattle.assign.specs.Homes.{AreHomes}
use Rattle.assign.specs.declared.home.HomeOf.{HomeOf}
use Rattle.assign.specs.declared.places.Layout.{Layout}
use Rattle.frame.specs.law_frame.Frame.{IsFramed}
use Rattle.frame.specs.law_frame.Keeps.{KeepsInFrame}
use Rattle.frame.specs.Framed.{FrameComes}
use Rattle.frame.proofs.Kept.{is_framed}
use Rattle.law_reload.specs.reload.Windows.{HasWindows}
use Rattle.law_reload.proofs.WithFrame.{described_with_frame}
use Rattle.law_window_lines.specs.Left.{SameWhereLeft}
use Rattle.law_passes.proofs.Whole.{whole_same}

-- the locals are part of the frame
pub size_holds : (locals : ℕ) (saved slots : List ℕ) → locals ≤ frame_size locals saved slots
size_holds locals saved slots = omega arith

-- f0 is the function that was read, f3 that behind lowering and the first split, f4 that with homes, f5 that with its frame too, and f6
-- that behind the second split
pub made_same : (constants : List Constant) (instances : List Instance) (f0 f3 f4 f5 f6 : Function) (homes : List HomeOf) (layout : Layout)
    (items : List CodeItem) →
    let forms = forms_of constants instances in
    PassKeeps f0 f3 → AreHomes f3 homes → layout ≡ layout_of f3 homes →
    HasWindows forms homes layout f3 f4 → FrameComes forms f4 layout (Ok f5) → KeepsInFrame f4 layout f5 → Keeps f5 f6 →
    SameWhereLeft f6 items → Same layout.size f0 items
made_same constants instances f0 f3 f4 f5 f6 homes layout items passes are layout_is windows comes keeps splits lines_do =
    let frame : IsFrame f3 homes layout = subst (IsFrame f3 homes) (sym layout_is) (IsFrame-layout_of f3 homes) in
    let framed : IsFramed layout f4 f5 = is_framed (forms_of constants instances) f4 f5 layout comes in
    let fits : f3.locals ≤ layout.size =
    subst (λ (l : Layout). f3.locals ≤ l.size) (sym layout_is) (size_holds f3.locals (saved_of f3 homes) (slots_of homes)) in
    whole_same f0 f3 f5 f6 layout items passes.keeps fits
    (described_with_frame constants instances f3 f4 homes layout are frame passes.sound.reloadable windows f5 keeps)
    (ap (λ (f : Function). f.locals) framed.framed_is ∙ ap (λ (f : Function). f.locals) windows.function_is)
    (ap (λ (f : Function). f.result) framed.framed_is ∙ ap (λ (f : Function). f.result) windows.function_is)
    splits lines_do
