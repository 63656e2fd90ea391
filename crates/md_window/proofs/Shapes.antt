-- The shape of the form with an index, by the forms that stand where it stands.
use Rattle.std.proofs.Common.{◌≡◌, ℕ, ◌<◌, ◌≤◌, Bool, false, List, length, Some, Result, Ok, Err, sym, ap, subst, ◌∙◌}
use Rattle.std.specs.Prelude.{IfOk, slice_get, get_or}
use Rattle.std.proofs.lemmas.Option.{slice_get-get_or, slice_get_past}
use Rattle.rtx_tree.specs.declared.tree.Rtx.{Rtx}
use Rattle.md_forms.specs.declared.form.Entry.{Entry}
use Rattle.md_recog.specs.declared.half.Half.TheVariants as half
use Rattle.md_recog.specs.Recog.{EntryMatches}
use Rattle.md_window.specs.Windows.{NeverMatches, NeverMatchesAt}

module _ (forms : List Entry) (insns : List Rtx) (form : ℕ) where
  pub never_there : {E : Type 0} (entry : Entry) (r : Result Bool E) → form < length forms → entry ≡ get_or forms form entry → IfOk r (λ has. has ≡ false → NeverMatches insns entry) →
      IfOk r (λ has. has ≡ false → NeverMatchesAt forms insns form)
  never_there entry (Ok has) within is never = λ not accepts facts operands m.
      let here : slice_get forms form ≡ Some entry = slice_get-get_or forms form entry within ∙ ap Some (sym is) in
      let both : Some m.entry ≡ Some entry = sym m.at ∙ here in
      let same : m.entry ≡ entry = cc in
      never not accepts facts operands (subst (λ (e : Entry). EntryMatches accepts facts half.Window insns e operands) same m.matches)
  never_there entry (Err e) within is never = tt

  pub never_past : length forms ≤ form → NeverMatchesAt forms insns form
  never_past past accepts facts operands m = let both = sym m.at ∙ slice_get_past forms form past in cc
