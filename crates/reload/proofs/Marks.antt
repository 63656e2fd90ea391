-- The labels and barriers of a function stay when its registers get homes.
use Rattle.std.proofs.Common.{◌≡◌, ℕ, ◌+◌, Bool, true, false, List, [], ◌∷◌, ◌++◌, length, Ok, refl}
use Rattle.std.proofs.Common.{sym, ap, ◌∙◌}
use Rattle.std.specs.Prelude.{if◌then◌else◌}
use Rattle.std.proofs.lemmas.List.Elements.{filter-append}
use Rattle.rtx_tree.specs.declared.tree.Rtx.{Rtx}
use Rattle.rtx_tree.specs.declared.function.Insn.{Insn}
use Rattle.rtx_tree.specs.declared.function.Function.{Function}
use Rattle.rtx_tree.specs.Patterns.{with_pattern}
use Rattle.rtl_step.specs.Step as step
use Rattle.md_forms.specs.declared.form.Entry.{Entry}
use Rattle.law_pass_needs.specs.Left.{is_mark, marks, SameMarks}
use Rattle.assign.specs.declared.home.HomeOf.{HomeOf}
use Rattle.assign.specs.declared.places.Layout.{Layout}
use Rattle.law_frame.specs.Frame.{plain_insns, next_uid}
use Rattle.reload.specs.Reload.{window_by, FunctionReloads}
use Rattle.reload.specs.Windows.{AreWindows, HasWindows}
use Rattle.reload.proofs.WindowLaws.{reload_windows, IsAmong, among}

both_marks : (xs ys : List Insn) → marks (xs ++ ys) ≡ marks xs ++ marks ys
both_marks xs ys = filter-append is_mark xs ys

no_marks : (uid : ℕ) (xs : List Rtx) → marks (plain_insns uid xs) ≡ []
no_marks uid [] = refl
no_marks uid (x ∷ xs) = no_marks (uid + 1) xs

mark_by : (b : Bool) (i : Insn) (x : Rtx) → (b ≡ true → x ≡ i.pattern) →
    (if b then with_pattern i x ∷ [] else []) ≡ (if b then i ∷ [] else [])
mark_by true i x stays = ap (λ (y : Rtx). with_pattern i y ∷ []) (stays refl)
mark_by false i x stays = refl

own_marks : (i : Insn) (x : Rtx) → (step.is_mark i.kind ≡ true → x ≡ i.pattern) →
    marks (with_pattern i x ∷ []) ≡ marks (i ∷ [])
own_marks i x stays = mark_by (step.is_mark i.kind) i x stays

-- moves are no labels and no barriers
window_marks : (uid : ℕ) (i : Insn) (before : List Rtx) (x : Rtx) (after : List Rtx) →
    (step.is_mark i.kind ≡ true → x ≡ i.pattern) →
    marks (window_by uid i before x after) ≡ marks (i ∷ [])
window_marks uid i before x after stays =
    let behind = plain_insns (uid + length before) after in
    both_marks (plain_insns uid before) (with_pattern i x ∷ behind) ∙
    ap (λ (front : List Insn). front ++ marks (with_pattern i x ∷ behind)) (no_marks uid before) ∙
    both_marks (with_pattern i x ∷ []) behind ∙
    ap (λ (back : List Insn). marks (with_pattern i x ∷ []) ++ back)
    (no_marks (uid + length before) after) ∙
    sym (both_marks (with_pattern i x ∷ []) []) ∙ own_marks i x stays

among_marks : (uid : ℕ) (i : Insn) (window : List Insn) → IsAmong uid i window →
    marks window ≡ marks (i ∷ [])
among_marks uid i window a = ap marks a.window_is ∙
    window_marks uid i a.before a.pattern a.after a.mark_stays

module _ (forms : List Entry) (homes : List HomeOf) (layout : Layout) where
  chain_marks : (uid : ℕ) (insns new : List Insn) → AreWindows forms homes layout uid insns new →
      marks new ≡ marks insns
  chain_marks _ _ _ (AreWindows.none uid) = refl
  chain_marks _ _ _ (AreWindows.one_more uid next i insns window rest is free more) =
      both_marks window rest ∙
      ap (λ (front : List Insn). front ++ marks rest)
      (among_marks uid i window (among forms homes layout uid i window is)) ∙
      ap (λ (back : List Insn). marks (i ∷ []) ++ back) (chain_marks next insns rest more) ∙
      sym (both_marks (i ∷ []) insns)

  same_marks : (f g : Function) → HasWindows forms homes layout f g → SameMarks f g
  same_marks f g has = record {
    name_is = ap (λ (h : Function). h.name) has.function_is;
    marks_are = chain_marks (next_uid f.insns) f.insns g.insns has.windows;
    locals_are = ap (λ (h : Function). h.locals) has.function_is;
    result_is = ap (λ (h : Function). h.result) has.function_is;
    result_reg_is = ap (λ (h : Function). h.result_reg) has.function_is;
  }

  -- labels and barriers stay, in their order
  pub reload_marks : (f g : Function) → FunctionReloads forms homes layout f (Ok g) → SameMarks f g
  reload_marks f g is = same_marks f g (reload_windows forms homes layout f g is)
