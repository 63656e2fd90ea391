-- The forms whose windows may begin with an instruction, by their keys.
use Rattle.std.proofs.Common.{◌≡◌, ℕ, true, false, List, ◌∷◌, map, length, Option, Some, None, sym, ap, subst, ◌∙◌}
use Rattle.std.specs.Prelude.{slice_get, MatchOption}
use Rattle.std.specs.Option.{option_map_or}
use Rattle.rtx_tree.specs.declared.tree.Rtx.{Rtx}
use Rattle.c_eval.specs.declared.facts.Facts.{Facts}
use Rattle.md_match.specs.Pattern.{Ops}
use Rattle.md_forms.specs.declared.form.Entry.{Entry}
use Rattle.md_recog.specs.Match.{Accepts}
use Rattle.md_recog.specs.declared.half.Half.TheVariants as half
use Rattle.md_recog.specs.Recog.{MatchesAt}
use Rattle.recog_tree.specs.declared.key.Key.{Key}
use Rattle.recog_tree.specs.Key.{key_of, entry_key, is_tried}
use Rattle.recog_tree.specs.Windows.{NoneBegins, MayBegin}
use Rattle.recog_tree.specs.machine.Tables.{is_tried_at, NoneTried}
use Rattle.recog_tree.proofs.KeyLaw.{window_is_tried}
use Rattle.recog_tree.proofs.Found.{Looked, looked_for, true_false, tried_at_form, as_long, within_forms}

module _ (t : List (Option Key)) (es : List Entry) (are : t ≡ map (entry_key half.Window) es) (i : Rtx) where
  untried : (a : Accepts) (f : Facts) (more : List Rtx) (k : ℕ) (o : Ops) → is_tried_at t (key_of i) k ≡ false → MatchesAt a f half.Window (i ∷ more) es k o → ⊥
  untried a f more k o not m =
      let here : is_tried_at t (key_of i) k ≡ is_tried half.Window i m.entry =
      tried_at_form half.Window t es i k are ∙ ap (λ e. option_map_or (is_tried half.Window i) e false) m.at in
      true_false (is_tried_at t (key_of i) k) (here ∙ window_is_tried a f i more m.entry o m.matches) not

  none_begins : (from to : ℕ) → NoneTried t (key_of i) from to → NoneBegins es i from to
  none_begins from to none a f more form behind before o m = untried a f more form o (none form behind before) m

  told : (from : ℕ) (r : Option ℕ) → Looked t (key_of i) from r → MatchOption r (NoneBegins es i from (length es)) (λ form. MayBegin es i from form)
  told from None none = none_begins from (length es) (subst (λ n. NoneTried t (key_of i) from n) (as_long half.Window t es are) none)
  told from (Some form) next = record {
    behind = next.behind;
    within = within_forms half.Window t es (key_of i) from form are next;
    first = none_begins from form next.first;
  }

  pub window_told : (k : Key) (from : ℕ) (r s : Option ℕ) → k ≡ key_of i → r ≡ s → Looked t k from r → MatchOption s (NoneBegins es i from (length es)) (λ form. MayBegin es i from form)
  window_told k from r s same is looked = told from s (looked_for t k (key_of i) from r s same is looked)
