-- What a form makes of a window.
use Rattle.std.proofs.Common.{◌≡◌, ◌↔◌, ℕ, ◌+◌, map, List, Option, Some, None, Result, Ok, Err, refl, sym, ap, subst, ◌∙◌}
use Rattle.std.specs.Prelude.{IfOk}
use Rattle.rtx_tree.specs.declared.tree.Rtx.{Rtx}
use Rattle.rtx_tree.specs.declared.function.Insn.{Insn}
use Rattle.rtx_tree.specs.declared.function.Function.{Function}
use Rattle.new_insns.specs.Replaced.{window}
use Rattle.c_eval.specs.declared.facts.Facts.{Facts}
use Rattle.md_match.specs.Pattern.{Ops}
use Rattle.md_forms.specs.declared.form.Entry.{Entry}
use Rattle.md_desc.specs.md_pred.Holds.{holds}
use Rattle.md_recog.specs.declared.half.Half.TheVariants as half
use Rattle.md_recog.specs.declared.recog.FormMatch.{FormMatch}
use Rattle.md_recog.specs.Recog.{MatchesAt, MatchesHere}
use Rattle.md_window.specs.Windows.{window_size, NeverMatchesAt}
use Rattle.form_needs.proofs.OneChosen.{at_one}
use Rattle.peep2.specs.Rewrite.{IsRun, patterns_from, AreFactsAt, rewritten_by, Makes, Rewrites}
use Rattle.peep2.specs.machine.Steps.{RunTold, MakesTold, RewritesTold, FormTold}
use Rattle.peep2.proofs.Dead.{facts_one}
use Rattle.peep2.proofs.Windows.{patterns_long, size_is}

apart : {A : Type 0} (x : A) → None ≡ Some x → ⊥
apart x is = cc

-- ---- of instructions

module _ (forms : List Entry) (facts : Facts) (insns : List Rtx) (form : ℕ) where
  -- a form matches with one list of operands, and so gives one sequence
  gives_one : (operands : Ops) (s : List Rtx) → MatchesAt (holds forms) facts half.Window insns forms form operands → Makes forms facts insns form s →
      rewritten_by forms facts insns form operands ≡ Some s
  gives_one operands s m is =
      subst (λ (o : Ops). rewritten_by forms facts insns form o ≡ Some s) (at_one (holds forms) facts half.Window insns forms form is.operands operands is.matches m) is.gives

  pub makes_one : (s t : List Rtx) → Makes forms facts insns form s → Makes forms facts insns form t → s ≡ t
  makes_one s t a b = let same : Some s ≡ Some t = sym a.gives ∙ gives_one a.operands t a.matches b in let one : s ≡ t = cc in one

  by_result : (operands : Ops) (r : Option (List Rtx)) → MatchesAt (holds forms) facts half.Window insns forms form operands → r ≡ rewritten_by forms facts insns form operands →
      MakesTold forms facts insns form r
  by_result operands (Some s) m is = record { operands = operands; matches = m; gives = sym is }
  by_result operands None m is = λ s makes. apart s (is ∙ gives_one operands s m makes)

  pub match_makes : (m : FormMatch) (r : Option (List Rtx)) → MatchesHere (holds forms) facts half.Window insns forms form m → r ≡ rewritten_by forms facts insns m.form m.operands →
      MakesTold forms facts insns form r
  match_makes m r here is = by_result m.operands r here.matches (is ∙ ap (λ k. rewritten_by forms facts insns k m.operands) here.is)

  pub match_makes_ok : {E : Type 0} (m : FormMatch) (r : Result (Option (List Rtx)) E) → MatchesHere (holds forms) facts half.Window insns forms form m →
      IfOk r (λ s. s ≡ rewritten_by forms facts insns m.form m.operands) → IfOk r (MakesTold forms facts insns form)
  match_makes_ok m (Ok s) here is = match_makes m s here is
  match_makes_ok m (Err e) here is = tt

  pub nothing_makes : (r : Option FormMatch) → r ≡ None → ((m : FormMatch) → (r ≡ Some m) ↔ MatchesHere (holds forms) facts half.Window insns forms form m) →
      (s : List Rtx) → Makes forms facts insns form s → ⊥
  nothing_makes r none asked s makes =
      let m : FormMatch = record { form = form; operands = makes.operands } in
      apart m (sym none ∙ (asked m).1 (record { is = refl; matches = makes.matches }))

-- ---- of a window at a place

module _ (forms : List Entry) (f : Function) (place count form : ℕ) where
  pub told_there : (facts : Facts) (insns : List Rtx) (r : Option (List Rtx)) → IsRun f place count → AreFactsAt f place count facts → insns ≡ patterns_from f place count →
      MakesTold forms facts insns form r → RewritesTold forms f place count form r
  told_there facts insns (Some s) run known is makes = record {
    run = run;
    facts = facts;
    known = known;
    makes = subst (λ (xs : List Rtx). Makes forms facts xs form s) is makes;
  }
  told_there facts insns None run known is none = λ s w.
      none s (subst (λ (xs : List Rtx). Makes forms facts xs form s) (sym is)
      (subst (λ (k : Facts). Makes forms k (patterns_from f place count) form s) (facts_one f place count w.facts facts w.known known) w.makes))

  pub told_there_ok : {E : Type 0} (facts : Facts) (insns : List Rtx) (r : Result (Option (List Rtx)) E) → IsRun f place count → AreFactsAt f place count facts →
      insns ≡ patterns_from f place count → IfOk r (MakesTold forms facts insns form) → IfOk r (RewritesTold forms f place count form)
  told_there_ok facts insns (Ok s) run known is makes = told_there facts insns s run known is makes
  told_there_ok facts insns (Err e) run known is makes = tt

  pub as_many : (s : List Rtx) → Rewrites forms f place count form s → count ≡ window_size forms form
  as_many s w = sym (patterns_long f place count w.run.within) ∙ size_is forms (holds forms) w.facts (patterns_from f place count) form w.makes.operands w.makes.matches

module _ (forms : List Entry) (f : Function) (place form size : ℕ) (asked : size ≡ window_size forms form) where
  -- so many do not stand there
  pub stands_none : RunTold f place size None → FormTold forms f place form None
  stands_none not count s w = not (subst (λ n. IsRun f place n) (as_many forms f place count form s w ∙ sym asked) w.run)

  -- they do, and have not the shape
  pub none_fits : (end : ℕ) → end ≡ place + size → NeverMatchesAt forms (map (λ (i : Insn). i.pattern) (window f place end)) form → FormTold forms f place form None
  none_fits end is never count s w =
      let same : place + count ≡ end = ap (λ n. place + n) (as_many forms f place count form s w ∙ sym asked) ∙ sym is in
      never (holds forms) w.facts w.makes.operands
      (subst (λ n. MatchesAt (holds forms) w.facts half.Window (map (λ (i : Insn). i.pattern) (window f place n)) forms form w.makes.operands) same w.makes.matches)

  -- they do, and nothing is made of them
  pub made_none : RewritesTold forms f place size form None → FormTold forms f place form None
  made_none not count s w = not s (subst (λ n. Rewrites forms f place n form s) (as_many forms f place count form s w ∙ sym asked) w)
