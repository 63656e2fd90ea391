-- The first form that rewrites a window at a place is one, and is found by looking at one form after the other.
use Rattle.std.proofs.lemmas.Bool.{cases_lt}
use Rattle.std.proofs.Common.{◌≡◌, ⊎_elim, ℕ, ◌+◌, ◌<◌, ◌≤◌, List, length, Some, None, sym, subst, ◌∙◌, arith}
use Rattle.std.specs.Prelude.{slice_get}
use Rattle.std.proofs.lemmas.Option.{slice_get_within}
use Rattle.rtx_tree.specs.declared.tree.Rtx.{Rtx}
use Rattle.rtx_tree.specs.declared.function.Insn.{Insn}
use Rattle.rtx_tree.specs.declared.function.Function.{Function}
use Rattle.c_eval.specs.declared.facts.Facts.{Facts}
use Rattle.md_forms.specs.declared.form.Entry.{Entry}
use Rattle.md_desc.specs.md_pred.Holds.{holds}
use Rattle.md_recog.specs.declared.half.Half.TheVariants as half
use Rattle.md_recog.specs.Recog.{MatchesAt}
use Rattle.recog_tree.specs.Windows.{NoneBegins, MayBegin}
use Rattle.peep2.specs.declared.form.Rewrite.{Rewrite}
use Rattle.peep2.specs.Rewrite.{patterns_from, Makes, Rewrites, IsRewrite, IsLeft}
use Rattle.peep2.specs.machine.Steps.{IsMade, FormTold, IsFound}
use Rattle.peep2.proofs.Dead.{facts_one}
use Rattle.peep2.proofs.Windows.{window_begins}
use Rattle.peep2.proofs.Made.{makes_one, as_many}

-- ---- one

module _ (forms : List Entry) (f : Function) (place : ℕ) where
  -- what is rewritten: by which form, how many, and into which sequence
  pub record AreSame (count many form other : ℕ) (s t : List Rtx) : Type 0 where
    pub counts : count ≡ many
    pub forms_are : form ≡ other
    pub sequences : s ≡ t

  one_form : (count many form : ℕ) (s t : List Rtx) → Rewrites forms f place count form s → Rewrites forms f place many form t → (count ≡ many) × (s ≡ t)
  one_form count many form s t a b =
      let same : count ≡ many = as_many forms f place count form s a ∙ sym (as_many forms f place many form t b) in
      let other : Rewrites forms f place count form t = subst (λ n. Rewrites forms f place n form t) (sym same) b in
      let known = facts_one f place count other.facts a.facts other.known a.known in
      (same, makes_one forms a.facts (patterns_from f place count) form s t a.makes (subst (λ (k : Facts). Makes forms k (patterns_from f place count) form t) known other.makes))

  pub rewrite_one : (count many form other : ℕ) (s t : List Rtx) → IsRewrite forms f place count form s → IsRewrite forms f place many other t → AreSame count many form other s t
  rewrite_one count many form other s t a b =
      let below : form ≤ other = a.first many other t b.rewrites in
      let above : other ≤ form = b.first count form s a.rewrites in
      let same : form ≡ other = omega (arith, below, above) in
      let both = one_form count many form s t a.rewrites (subst (λ k. Rewrites forms f place many k t) (sym same) b.rewrites) in
      record { counts = both.0; forms_are = same; sequences = both.1 }

-- ---- one form after the other

module _ (forms : List Entry) (f : Function) (place : ℕ) where
  -- no form below a number rewrites a window there
  abbrev pub NoneBelow : ℕ → Type 0
  NoneBelow from = (count form : ℕ) (s : List Rtx) → Rewrites forms f place count form s → from ≤ form

  pub none_yet : NoneBelow 0
  none_yet count form s w = omega arith

  module _ (i : Insn) (at : slice_get f.insns place ≡ Some i) where
    -- what rewrites a window there has one that begins with the instruction
    begins : (from to count form : ℕ) (s : List Rtx) → NoneBegins forms i.pattern from to → from ≤ form → form < to → Rewrites forms f place count form s → ⊥
    begins from to count form s none behind before w =
        let first = window_begins f place count i at w.run.some in
        none (holds forms) w.facts first.0 form behind before w.makes.operands
        (subst (λ (xs : List Rtx). MatchesAt (holds forms) w.facts half.Window xs forms form w.makes.operands) first.1 w.makes.matches)

    -- none may any more
    pub none_left : (from : ℕ) → NoneBegins forms i.pattern from (length forms) → NoneBelow from → IsLeft forms f place
    none_left from none below count form s w =
        begins from (length forms) count form s none (below count form s w) (slice_get_within forms form w.makes.matches.entry w.makes.matches.at) w

    module _ (from form : ℕ) (may : MayBegin forms i.pattern from form) (below : NoneBelow from) where
      reached : (count other : ℕ) (s : List Rtx) → Rewrites forms f place count other s → form ≤ other
      reached count other s w = ⊎_elim
          (λ (less : other < form). absurd (begins from form count other s may.first (below count other s w) less w))
          (λ (more : form ≤ other). more)
          (cases_lt other form)

      -- the next does not
      pub none_on : FormTold forms f place form None → NoneBelow (form + 1)
      none_on not count other s w = ⊎_elim
          (λ (less : form < other). omega (arith, less))
          (λ (past : other ≤ form).
          let most : form ≤ other = reached count other s w in
          let same : other ≡ form = omega (arith, past, most) in
          absurd (not count s (subst (λ k. Rewrites forms f place count k s) same w)))
          (cases_lt form other)

      -- it does
      pub found : (r : Rewrite) → IsMade forms f place form r → IsFound forms f place r
      found r is = record {
        end_is = is.end_is;
        is = record {
          rewrites = subst (λ k. Rewrites forms f place r.count k r.sequence) (sym is.form_is) is.rewrites;
          first = λ many other s w. subst (λ k. k ≤ other) (sym is.form_is) (reached many other s w);
        };
      }
