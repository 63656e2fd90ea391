-- The first form that splits an instruction is one, and is found by looking at one form after the other.
use Rattle.std.proofs.lemmas.Bool.{cases_lt}
use Rattle.std.proofs.Common.{◌≡◌, ◌⊎◌, ⊎_elim, inl, inr, ◌↔◌, ℕ, ◌+◌, ◌≤◌, ◌<◌, true, false, List, [], ◌∷◌, length, Option, Some, None, sym, subst, ◌∙◌, arith}
use Rattle.std.proofs.lemmas.Option.{slice_get_within}
use Rattle.rtx_tree.specs.declared.tree.Rtx.{Rtx}
use Rattle.rtx_tree.specs.declared.function.Insn.{Insn}
use Rattle.c_eval.specs.declared.facts.Facts.{Facts}
use Rattle.md_match.specs.Pattern.{Ops}
use Rattle.md_forms.specs.declared.form.Entry.{Entry}
use Rattle.md_desc.specs.md_pred.Holds.{holds}
use Rattle.md_recog.specs.declared.half.Half.TheVariants as half
use Rattle.md_recog.specs.declared.recog.FormMatch.{FormMatch}
use Rattle.md_recog.specs.Recog.{MatchesAt, NoneBetween, IsFirst}
use Rattle.form_needs.specs.Needs.{is_kind}
use Rattle.form_needs.proofs.OneChosen.{both, at_one}
use Rattle.pass_name.specs.declared.pass.Pass.{Pass}
use Rattle.split.specs.Split.{facts_of, given_by, Splits, IsSplit, IsUnsplit}

-- of two numbers
pub order : (a b : ℕ) → ((a < b) ⊎ (b < a)) ⊎ (a ≡ b)
order a b = ⊎_elim (λ below. inl (inl below)) (λ reached. ⊎_elim (λ above. inl (inr above)) (λ other. inr (omega (arith, reached, other))) (cases_lt b a)) (cases_lt a b)

module _ (forms : List Entry) (pass : Pass) (next : ℕ) (i : Insn) where
  -- ---- one sequence

  -- a form matches with one list of operands, and so gives one sequence
  pub gives_one : (form : ℕ) (operands : Ops) (s : List Rtx) → MatchesAt (holds forms) (facts_of pass) half.Split (i.pattern ∷ []) forms form operands →
      Splits forms pass next i form s → given_by forms pass next form operands ≡ Some s
  gives_one form operands s m is =
      subst (λ (o : Ops). given_by forms pass next form o ≡ Some s) (at_one (holds forms) (facts_of pass) half.Split (i.pattern ∷ []) forms form is.operands operands is.matches m) is.gives

  same_form : (form other : ℕ) (s t : List Rtx) → IsSplit forms pass next i form s → IsSplit forms pass next i other t → form ≡ other
  same_form form other s t a b =
      let below : form ≤ other = a.first other t b.splits in
      let above : other ≤ form = b.first form s a.splits in
      omega (arith, below, above)

  same_sequence : (form : ℕ) (s t : List Rtx) → Splits forms pass next i form s → Splits forms pass next i form t → s ≡ t
  same_sequence form s t a b =
      let same : Some s ≡ Some t = sym a.gives ∙ gives_one form a.operands t a.matches b in
      let one : s ≡ t = cc in
      one

  pub split_one : (form other : ℕ) (s t : List Rtx) → IsSplit forms pass next i form s → IsSplit forms pass next i other t → (form ≡ other) × (s ≡ t)
  split_one form other s t a b =
      let same = same_form form other s t a b in
      (same, same_sequence other s t (subst (λ k. Splits forms pass next i k s) same a.splits) b.splits)

  pub split_not : {P : Type 0} (form : ℕ) (s : List Rtx) → IsSplit forms pass next i form s → IsUnsplit forms pass next i → P
  split_not form s a none = absurd (none form s a.splits)

  -- ---- one form after the other

  -- no form below a number splits it
  abbrev pub NoneBelow : ℕ → Type 0
  NoneBelow from = (form : ℕ) (s : List Rtx) → Splits forms pass next i form s → from ≤ form

  pub none_yet : NoneBelow 0
  none_yet form s is = omega arith

  -- the first that matches fails
  pub none_on : (from : ℕ) (m : FormMatch) → IsFirst (holds forms) (facts_of pass) half.Split (i.pattern ∷ []) forms from m → given_by forms pass next m.form m.operands ≡ None →
      NoneBelow from → NoneBelow (m.form + 1)
  none_on from m first fails none form s is = by_order (order form m.form)
    where
      by_order : ((form < m.form) ⊎ (m.form < form)) ⊎ (form ≡ m.form) → m.form + 1 ≤ form
      by_order (inl (inl below)) = absurd (first.first form (none form s is) below is.operands is.matches)
      by_order (inl (inr above)) = omega (arith, above)
      by_order (inr same) =
          let gives : given_by forms pass next m.form m.operands ≡ Some s = gives_one m.form m.operands s first.matches (subst (λ k. Splits forms pass next i k s) same is) in
          let wrong : None ≡ Some s = sym fails ∙ gives in
          let never : ⊥ = cc in
          absurd never

  -- the first that matches does not fail
  pub found : (from : ℕ) (m : FormMatch) (s : List Rtx) → is_kind i.kind ≡ true → IsFirst (holds forms) (facts_of pass) half.Split (i.pattern ∷ []) forms from m →
      given_by forms pass next m.form m.operands ≡ Some s → NoneBelow from → IsSplit forms pass next i m.form s
  found from m s kind first gives none = record {
    splits = record { instruction = kind; operands = m.operands; matches = first.matches; gives = gives };
    first = λ other t is. by_order other (none other t is) is (order other m.form);
  }
    where
      by_order : (other : ℕ) → {t : List Rtx} → from ≤ other → Splits forms pass next i other t → ((other < m.form) ⊎ (m.form < other)) ⊎ (other ≡ m.form) → m.form ≤ other
      by_order other behind is (inl (inl below)) = absurd (first.first other behind below is.operands is.matches)
      by_order other behind is (inl (inr above)) = omega (arith, above)
      by_order other behind is (inr same) = omega (arith, same)

  -- no form matches any more
  pub none_matches : (from : ℕ) → NoneBetween (holds forms) (facts_of pass) half.Split (i.pattern ∷ []) forms from (length forms) → NoneBelow from → IsUnsplit forms pass next i
  none_matches from nothing none form s is =
      nothing form (none form s is) (slice_get_within forms form is.matches.entry is.matches.at) is.operands is.matches

  -- all were looked at
  pub none_left : (from : ℕ) → length forms ≤ from → NoneBelow from → IsUnsplit forms pass next i
  none_left from end none form s is =
      let behind : from ≤ form = none form s is in
      let within : form < length forms = slice_get_within forms form is.matches.entry is.matches.at in
      omega (arith, end, behind, within)

  -- labels and barriers
  pub no_instruction : is_kind i.kind ≡ false → IsUnsplit forms pass next i
  no_instruction not form s is = both (is_kind i.kind) is.instruction not

  -- ---- what was asked

  -- with what conditions know
  pub first_of : (facts : Facts) (from : ℕ) (m : FormMatch) (r : Option FormMatch) → facts ≡ facts_of pass → r ≡ Some m →
      ((m : FormMatch) → (r ≡ Some m) ↔ IsFirst (holds forms) facts half.Split (i.pattern ∷ []) forms from m) → IsFirst (holds forms) (facts_of pass) half.Split (i.pattern ∷ []) forms from m
  first_of facts from m r known is asked = subst (λ (k : Facts). IsFirst (holds forms) k half.Split (i.pattern ∷ []) forms from m) known ((asked m).0 is)

  pub nothing_of : (facts : Facts) (from : ℕ) (r : Option FormMatch) → facts ≡ facts_of pass → r ≡ None →
      (r ≡ None → NoneBetween (holds forms) facts half.Split (i.pattern ∷ []) forms from (length forms)) → NoneBetween (holds forms) (facts_of pass) half.Split (i.pattern ∷ []) forms from (length forms)
  nothing_of facts from r known is asked = subst (λ (k : Facts). NoneBetween (holds forms) k half.Split (i.pattern ∷ []) forms from (length forms)) known (asked is)

  pub first_within : (from : ℕ) (m : FormMatch) → IsFirst (holds forms) (facts_of pass) half.Split (i.pattern ∷ []) forms from m → m.form < length forms
  first_within from m first = slice_get_within forms m.form first.matches.entry first.matches.at
