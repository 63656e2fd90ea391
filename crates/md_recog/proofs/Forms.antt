-- When a form matches, by what it says in a half.
use Rattle.std.proofs.Common.{◌≡◌, ◌↔◌, true, List, Option, Some, Result, Ok, Err, sym, subst, ◌∙◌}
use Rattle.std.specs.Prelude.{IfOk}
use Rattle.rtx_tree.specs.declared.tree.Rtx.{Rtx}
use Rattle.c_cond.specs.declared.tree.Tree.{Tree}
use Rattle.c_eval.specs.declared.facts.Facts.{Facts}
use Rattle.md_match.specs.Pattern.{Ops}
use Rattle.md_recog.specs.declared.half.Half.{Half}
use Rattle.md_recog.specs.Match.{Accepts, IsMatch}
use Rattle.md_forms.specs.md_pattern.declared.reason.Reason.{Reason}
use Rattle.md_forms.specs.declared.form.Form.{Form}
use Rattle.md_forms.specs.declared.form.Entry.{Entry}
use Rattle.md_recog.specs.Recog.{has_half, condition_of, patterns_of, FormMatches, EntryMatches}

module _ (a : Accepts) (f : Facts) (h : Half) (i : List Rtx) where
  -- what a property of operands tells of those that were found
  abbrev pub Found : (Ops → Type 0) → Option Ops → Type 0
  Found P r = (o : Ops) → (r ≡ Some o) ↔ P o

  by_half : (g : Form) (r : Option Ops) → has_half h g.head ≡ true → Found (IsMatch a f (patterns_of h g) (condition_of h g) i) r → Found (FormMatches a f h i g) r
  by_half g r has found o = (
    λ e. record { has = has; matches = (found o).0 e },
    λ m. (found o).1 m.matches,
  )

  here : {E : Type 0} (g : Form) (r : Result (Option Ops) E) → has_half h g.head ≡ true → IfOk r (Found (IsMatch a f (patterns_of h g) (condition_of h g) i)) → IfOk r (Found (FormMatches a f h i g))
  here g (Ok r) has found = by_half g r has found
  here g (Err e) has found = tt

  pub form_found : {E : Type 0} (g : Form) (ps : List Rtx) (k : Tree) (r : Result (Option Ops) E) → has_half h g.head ≡ true → ps ≡ patterns_of h g → k ≡ condition_of h g → IfOk r (Found (IsMatch a f ps k i)) → IfOk r (Found (FormMatches a f h i g))
  form_found g ps k r has p e found = here g r has (subst (λ k. IfOk r (Found (IsMatch a f (patterns_of h g) k i))) e (subst (λ ps. IfOk r (Found (IsMatch a f ps k i))) p found))

  same_form : (g k : Form) → ◌≡◌ {A = Result Form Reason} (Ok g) (Ok k) → g ≡ k
  same_form g k e = cc

  by_form : (e : Entry) (g : Form) (r : Option Ops) → e.form ≡ Ok g → Found (FormMatches a f h i g) r → Found (EntryMatches a f h i e) r
  by_form e g r is found o = (
    λ same. record { says = g; accepted = is; matches = (found o).0 same },
    λ m. (found o).1 (subst (λ k. FormMatches a f h i k o) (same_form m.says g (sym m.accepted ∙ is)) m.matches),
  )

  pub entry_found : {E : Type 0} (e : Entry) (g : Form) (r : Result (Option Ops) E) → e.form ≡ Ok g → IfOk r (Found (FormMatches a f h i g)) → IfOk r (Found (EntryMatches a f h i e))
  entry_found e g (Ok r) is found = by_form e g r is found
  entry_found e g (Err x) is found = tt
