-- What an instruction comes to is added.
use Rattle.std.proofs.Common.{◌≡◌, ℕ, true, false, List, [], ◌∷◌, ◌++◌, length, get_or, Ok, Err}
use Rattle.std.proofs.Common.{refl, sym, ap, subst, ◌∙◌}
use Rattle.rtx_tree.specs.declared.function.Function.{Function}
use Rattle.rtx_tree.specs.declared.function.Insn.{Insn}
use Rattle.rtx_tree.specs.declared.tree.Rtx.{Rtx}
use Rattle.rtx_tree.specs.Patterns.{with_pattern}
use Rattle.md_forms.specs.declared.form.Entry.{Entry}
use Rattle.md_forms.specs.Forms.{names_of}
use Rattle.md_desc.specs.md_recog.declared.recog.FormMatch.{FormMatch}
use Rattle.md_desc.specs.Recog.{IsFirst, NoneMatches}
use Rattle.form_needs.specs.Needs.{name_at, needs_form, lower_facts}
use Rattle.assign.specs.declared.home.HomeOf.{HomeOf}
use Rattle.assign.specs.declared.places.Layout.{Layout}
use Rattle.law_frame.specs.Frame.{next_uid, with_insns}
use Rattle.reload_choice.specs.declared.given.Given.{Given}
use Rattle.reload_choice.specs.declared.given.Plan.{Plan}
use Rattle.reload_choice.specs.Choice.{IsChosen, NoneReaches}
use Rattle.reload.specs.declared.refusal.ReloadRefusal.{ReloadRefusal}
use Rattle.reload.specs.declared.refusal.ReloadRefusal.TheVariants as refusal
use Rattle.reload.specs.Outcome.{RefusesAs}
use Rattle.reload.specs.Reload.{placed, alone, given_of, patterns_at, moves_of, window_of}
use Rattle.reload.specs.Reload.{InsnAnswer, MatchReloads, InsnReloads, ChainReloads, function_of}
use Rattle.reload.specs.Reload.{FunctionReloads}
use Rattle.reload.specs.machine.Added.{Added, AreStuck, AddsWindow, IsAdded, Adds}
use Rattle.reload.proofs.Matching.{pattern_one}
use Rattle.reload.proofs.Running.{refuses_map, adds_map}

-- ---- by a plan

module _ (forms : List Entry) (form : ℕ) (given : Given) (uid : ℕ) (i : Insn) where
  pub given_added : (plan : Plan) (old new : List Insn) (r : Added) → IsChosen forms form given plan →
      AddsWindow forms uid i given plan old new r → Adds (MatchReloads forms form given uid i) uid old new r
  given_added plan old new (Ok next) chosen is =
      record {
        window = window_of uid i given plan;
        comes = MatchReloads.made plan chosen is.matched;
        stands = is.stands;
        free = is.free;
      }
  given_added plan old new (Err e) chosen r =
      refuses_map e (AreStuck forms uid (moves_of given plan)) (λ d. MatchReloads forms form given uid i (Err d)) (λ d is.
      subst (λ (d : ReloadRefusal). MatchReloads forms form given uid i (Err d)) (sym is.refusal_is)
      (MatchReloads.stuck plan is.before is.insn chosen is.stuck)) r

  pub given_refused : (e : ReloadRefusal) → e ≡ refusal.Unsatisfied i.uid (name_at (names_of forms) form) given.insn →
      NoneReaches forms form given → RefusesAs e (λ d. MatchReloads forms form given uid i (Err d))
  given_refused e is none = subst (λ (d : ReloadRefusal). RefusesAs d (λ d. MatchReloads forms form given uid i (Err d))) (sym is)
      (MatchReloads.unsatisfied none)

-- ---- by a match

pattern_first : (ps : List Rtx) (q : Rtx) → (p : Rtx) × (ps ≡ p ∷ []) → q ≡ get_or ps 0 q → ps ≡ q ∷ []
pattern_first ps q one is =
    let same : get_or ps 0 q ≡ one.0 = ap (λ (xs : List Rtx). get_or xs 0 q) one.1 in
    one.1 ∙ ap (λ (y : Rtx). y ∷ []) (sym (is ∙ same))

-- a form that is first has a pattern
pub has_pattern : (forms : List Entry) (x : Rtx) (m : FormMatch) → IsFirst forms lower_facts x 0 m → length (patterns_at forms m.form) ≡ 1
has_pattern forms x m first = ap length (pattern_one forms lower_facts x m.form m.operands first.matches).1

module _ (forms : List Entry) (homes : List HomeOf) (layout : Layout) (uid : ℕ) (i : Insn) where
  pub match_added : (m : FormMatch) (x pattern : Rtx) (given : Given) (old new : List Insn) (r : Added) → needs_form i ≡ true →
      x ≡ placed layout i → IsFirst forms lower_facts x 0 m →
      pattern ≡ get_or (patterns_at forms m.form) 0 pattern → given ≡ given_of homes layout i.kind x pattern m.operands →
      Adds (MatchReloads forms m.form given uid i) uid old new r →
      Adds (InsnReloads forms homes layout uid i) uid old new r
  match_added m x pattern given old new r needs is_placed first at is_given added =
      let first_placed : IsFirst forms lower_facts (placed layout i) 0 m =
      subst (λ (y : Rtx). IsFirst forms lower_facts y 0 m) is_placed first in
      let pattern_is = pattern_first (patterns_at forms m.form) pattern
      (pattern_one forms lower_facts x m.form m.operands first.matches) at in
      let same : given ≡ given_of homes layout i.kind (placed layout i) pattern m.operands = is_given ∙
      ap (λ (y : Rtx). given_of homes layout i.kind y pattern m.operands) is_placed in
      adds_map (MatchReloads forms m.form given uid i) (InsnReloads forms homes layout uid i) uid old new r (λ a comes.
      InsnReloads.matched m.form pattern m.operands a needs (record { first = first_placed; pattern_is = pattern_is })
      (subst (λ (g : Given). MatchReloads forms m.form g uid i a) same comes)) added

  pub needing_refused : (x : Rtx) → x ≡ placed layout i → needs_form i ≡ true → NoneMatches forms lower_facts x →
      InsnReloads forms homes layout uid i (Err (refusal.Unmatched i.uid x))
  needing_refused x is_placed needs none =
      subst (λ (y : Rtx). InsnReloads forms homes layout uid i (Err (refusal.Unmatched i.uid y))) (sym is_placed)
      (InsnReloads.unmatched needs (subst (λ (y : Rtx). NoneMatches forms lower_facts y) is_placed none))

  pub stays_added : (x : Rtx) (old new : List Insn) → needs_form i ≡ false → x ≡ alone homes layout i →
      new ≡ old ++ with_pattern i x ∷ [] → IsAdded (InsnReloads forms homes layout uid i) uid old new uid
  stays_added x old new free is_alone is = record {
    window = with_pattern i (alone homes layout i) ∷ [];
    comes = InsnReloads.stays free;
    stands = is ∙ ap (λ (y : Rtx). old ++ with_pattern i y ∷ []) is_alone;
    free = refl;
  }

-- ---- the function

module _ (forms : List Entry) (homes : List HomeOf) (layout : Layout) (f : Function) (uid : ℕ) (insns chain : List Insn)
    (same : insns ≡ f.insns) (is_next : uid ≡ next_uid insns) (is_chain : chain ≡ f.insns) where
  from_next : (answer : InsnAnswer) → ChainReloads forms homes layout uid chain answer →
      FunctionReloads forms homes layout f (function_of f answer)
  from_next answer made =
      FunctionReloads.comes answer
      (subst (λ (n : ℕ). ChainReloads forms homes layout n f.insns answer) (is_next ∙ ap next_uid same)
      (subst (λ (js : List Insn). ChainReloads forms homes layout uid js answer) is_chain made))

  pub reload_refused : (e : ReloadRefusal) → RefusesAs e (λ d. ChainReloads forms homes layout uid chain (Err d)) →
      RefusesAs e (λ d. FunctionReloads forms homes layout f (Err d))
  reload_refused e r =
      refuses_map e (λ d. ChainReloads forms homes layout uid chain (Err d)) (λ d. FunctionReloads forms homes layout f (Err d))
      (λ d made. from_next (Err d) made) r

  pub reload_gave : (new : List Insn) (g : Function) → g ≡ with_insns f new → ChainReloads forms homes layout uid chain (Ok new) →
      FunctionReloads forms homes layout f (Ok g)
  reload_gave new g is made = subst (λ (h : Function). FunctionReloads forms homes layout f (Ok h)) (sym is) (from_next (Ok new) made)
