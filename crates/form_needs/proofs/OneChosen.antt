-- A form matches an instruction with one list of operands, and the first that counts at output is one.
use Rattle.std.proofs.lemmas.Bool.{cases_lt}
use Rattle.std.proofs.Common.{◌≡◌, ◌⊎◌, ⊎_elim, inl, inr, ℕ, ◌<◌, Bool, true, false, List, [], ◌∷◌, Some, Ok, refl, sym, ap, subst, ◌∙◌, arith}
use Rattle.rtx_tree.specs.declared.tree.Rtx.{Rtx}
use Rattle.c_eval.specs.declared.facts.Facts.{Facts}
use Rattle.md_match.specs.Pattern.{Ops}
use Rattle.md_match.proofs.OneList.{one_list}
use Rattle.md_desc.specs.md_recog.declared.half.Half.{Half}
use Rattle.md_desc.specs.md_recog.declared.half.Half.TheVariants as half
use Rattle.md_desc.specs.md_recog.Match.{Accepts}
use Rattle.md_desc.specs.md_recog.Recog.{patterns_of, FormMatches, EntryMatches, MatchesAt}
use Rattle.md_desc.specs.md_forms.declared.form.Form.{Form}
use Rattle.md_desc.specs.md_forms.declared.form.Entry.{Entry}
use Rattle.md_desc.specs.md_pred.Holds.{holds}
use Rattle.md_desc.specs.declared.output.Chosen.{Chosen}
use Rattle.md_desc.specs.Recog.{IsLowest, is_usable, MatchesOut, IsChosen, NoneMatchesOut}

pub both : (b : Bool) → b ≡ true → b ≡ false → ⊥
both b t f = let none : true ≡ false = sym t ∙ f in let never : ⊥ = cc in never

-- ---- one list of operands

module _ (a : Accepts) (f : Facts) (h : Half) (i : List Rtx) where
  form_one : (g : Form) (o p : Ops) → FormMatches a f h i g o → FormMatches a f h i g p → o ≡ p
  form_one g o p m n = one_list (patterns_of h g) i o p m.matches.shape n.matches.shape

  entry_one : (e : Entry) (o p : Ops) → EntryMatches a f h i e o → EntryMatches a f h i e p → o ≡ p
  entry_one e o p m n =
      let forms : Ok m.says ≡ Ok n.says = sym m.accepted ∙ n.accepted in
      let same : m.says ≡ n.says = cc in
      form_one n.says o p (subst (λ g. FormMatches a f h i g o) same m.matches) n.matches

  pub at_one : (es : List Entry) (k : ℕ) (o p : Ops) → MatchesAt a f h i es k o → MatchesAt a f h i es k p → o ≡ p
  at_one es k o p m n =
      let entries : Some m.entry ≡ Some n.entry = sym m.at ∙ n.at in
      let same : m.entry ≡ n.entry = cc in
      entry_one n.entry o p (subst (λ e. EntryMatches a f h i e o) same m.matches) n.matches

-- ---- one choice

lowest_one : (es : List Entry) (form : ℕ) (o : Ops) (a b : ℕ) → IsLowest es form o a → IsLowest es form o b → a ≡ b
lowest_one es form o a b m n = ⊎_elim
    (λ order. ⊎_elim
    (λ below. absurd (both (is_usable es form o a) m.usable (n.lower a below)))
    (λ above. absurd (both (is_usable es form o b) n.usable (m.lower b above)))
    order)
    (λ same. same)
    (order a b)
  where
    order : (a b : ℕ) → ((a < b) ⊎ (b < a)) ⊎ (a ≡ b)
    order a b = ⊎_elim (λ below. inl (inl below)) (λ reached. ⊎_elim (λ above. inl (inr above)) (λ other. inr (omega (arith, reached, other))) (cases_lt b a)) (cases_lt a b)

module _ (es : List Entry) (f : Facts) (i : Rtx) where
  same_form : (c d : Chosen) → IsChosen es f i c → IsChosen es f i d → c.form ≡ d.form
  same_form c d m n = ⊎_elim
      (λ order. ⊎_elim
      (λ below. absurd (n.first c.form below c.operands c.alternative m.matches))
      (λ above. absurd (m.first d.form above d.operands d.alternative n.matches))
      order)
      (λ same. same)
      (order c.form d.form)
    where
      order : (a b : ℕ) → ((a < b) ⊎ (b < a)) ⊎ (a ≡ b)
      order a b = ⊎_elim (λ below. inl (inl below)) (λ reached. ⊎_elim (λ above. inl (inr above)) (λ other. inr (omega (arith, reached, other))) (cases_lt b a)) (cases_lt a b)

  operands_one : (c d : Chosen) → c.form ≡ d.form → IsChosen es f i c → IsChosen es f i d → c.operands ≡ d.operands
  operands_one c d same m n =
      let here : MatchesOut es f i d.form c.operands c.alternative = subst (λ k. MatchesOut es f i k c.operands c.alternative) same m.matches in
      at_one (holds es) f half.Insn (i ∷ []) es d.form c.operands d.operands here.matches n.matches.matches

  same_alternative : (c d : Chosen) → c.form ≡ d.form → IsChosen es f i c → IsChosen es f i d → c.alternative ≡ d.alternative
  same_alternative c d same m n =
      let here : MatchesOut es f i d.form c.operands c.alternative = subst (λ k. MatchesOut es f i k c.operands c.alternative) same m.matches in
      lowest_one es d.form d.operands c.alternative d.alternative (subst (λ o. IsLowest es d.form o c.alternative) (operands_one c d same m n) here.lowest) n.matches.lowest

  -- what is chosen is one
  pub chosen_one : (c d : Chosen) → IsChosen es f i c → IsChosen es f i d → c ≡ d
  chosen_one c d m n =
      let form = same_form c d m n in
      let operands = operands_one c d form m n in
      let alternative = same_alternative c d form m n in
      ap (λ (k : ℕ). record { form = k; operands = c.operands; alternative = c.alternative }) form ∙
      (ap (λ (o : Ops). record { form = d.form; operands = o; alternative = c.alternative }) operands ∙ ap (λ (a : ℕ). record { form = d.form; operands = d.operands; alternative = a }) alternative)

  -- and where one is chosen, some form counts
  pub chosen_not : (c : Chosen) → IsChosen es f i c → NoneMatchesOut es f i → ⊥
  chosen_not c m none = none c.form c.operands c.alternative m.matches
