-- Why an alternative is not reached, by the list of its instances.
use Rattle.std.proofs.Common.{◌≡◌, ◌≢◌, ◌↔◌, ℕ, ℤ, ◌<◌, ◌≤◌, List, [], ◌∷◌, Option, Some, None, length, get_or, sym, subst, arith}
use Rattle.c_eval.specs.declared.facts.Facts.{Facts}
use Rattle.md_desc.specs.declared.output.Chosen.{Chosen}
use Rattle.md_desc.specs.Recog.{IsChosen, NoneMatchesOut}
use Rattle.form_needs.specs.Needs.{output_facts}
use Rattle.md_desc.specs.md_forms.declared.form.Entry.{Entry}
use Rattle.md_desc.specs.md_attr.Alternatives.{form_at}
use Rattle.lint_tried.specs.declared.instance.Instance.{Instance}
use Rattle.lint_why.specs.declared.why.Why.{Why}
use Rattle.lint_why.specs.declared.why.Why.TheVariants as why
use Rattle.lint_why.specs.Why.{IsTaken, why_form, IsWhyOf}

pub taken : (forms : List Entry) (tested : List ℤ) (form alternative : ℕ) (is : List Instance) (i : Instance) (w : Why) → 1 ≤ length is → i ≡ get_or is 0 i → IsTaken forms form i w → IsWhyOf forms tested form alternative is w
taken forms tested form alternative [] i w some first t = absurd (grind (arith, some))
taken forms tested form alternative (x ∷ xs) i w some first t = subst (λ (y : Instance). IsTaken forms form y w) first t

pub none : (forms : List Entry) (tested : List ℤ) (form alternative : ℕ) (is : List Instance) (w : Why) → length is < 1 → w ≡ why_form forms tested form alternative (form_at forms form) → IsWhyOf forms tested form alternative is w
none forms tested form alternative [] w empty e = e
none forms tested form alternative (x ∷ xs) w empty e = absurd (grind (arith, empty))

-- ---- what takes an instance

module _ (forms : List Entry) (form : ℕ) (i : Instance) (facts : Facts) (r : Option Chosen) (at_output : facts ≡ output_facts) where
  pub by_nothing : r ≡ None → (r ≡ None → NoneMatchesOut forms facts i.insn.pattern) → IsTaken forms form i why.Nothing
  by_nothing is none = IsTaken.by_none (subst (λ (f : Facts). NoneMatchesOut forms f i.insn.pattern) at_output (none is))

  chosen : (c : Chosen) → r ≡ Some c → ((d : Chosen) → (r ≡ Some d) ↔ IsChosen forms facts i.insn.pattern d) → IsChosen forms output_facts i.insn.pattern c
  chosen c is choices = subst (λ (f : Facts). IsChosen forms f i.insn.pattern c) at_output ((choices c).0 is)

  pub by_same : (c : Chosen) → r ≡ Some c → ((d : Chosen) → (r ≡ Some d) ↔ IsChosen forms facts i.insn.pattern d) → c.form ≡ form → IsTaken forms form i (why.Alternative c.alternative)
  by_same c is choices same = IsTaken.by_alternative c (chosen c is choices) same

  pub by_other : (c : Chosen) → r ≡ Some c → ((d : Chosen) → (r ≡ Some d) ↔ IsChosen forms facts i.insn.pattern d) → c.form ≢ form → IsTaken forms form i (why.Form c.form)
  by_other c is choices other = IsTaken.by_form c (chosen c is choices) other
