-- The windows of a pattern that is made.
use Rattle.std.proofs.Common.{◌≡◌, ℕ, List, ap, ◌∙◌}
use Rattle.rtx_tree.specs.declared.tree.Rtx.{Rtx}
use Rattle.md_desc.specs.md_forms.declared.form.Entry.{Entry}
use Rattle.md_desc.specs.md_forms.declared.form.Form.{Form}
use Rattle.lint_windows.specs.Windows.{window_pattern, trial_with, windows_of, windows_by}

pub by_pattern : (forms : List Entry) (form : ℕ) (f : Form) (pattern : Rtx) (windows : List (List Rtx)) →
    pattern ≡ window_pattern f → windows ≡ windows_of (trial_with forms form f pattern) → windows ≡ windows_by forms form f
by_pattern forms form f pattern windows is made =
    made ∙ ap (λ (p : Rtx). windows_of (trial_with forms form f p)) is
