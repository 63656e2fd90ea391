-- The lowest alternative that can be used, found by looking at one after the other.
use Rattle.std.proofs.lemmas.Bool.{cases_lt}
use Rattle.std.proofs.Common.{◌≡◌, ◌↔◌, ◌⊎◌, ⊎_elim, inl, inr, ℕ, ◌+◌, ◌<◌, ◌≤◌, Bool, true, false, List, Some, None, refl, sym, ap, subst, ◌∙◌, arith}
use Rattle.md_match.specs.Pattern.{Ops}
use Rattle.md_forms.specs.declared.form.Entry.{Entry}
use Rattle.md_constr.specs.md_attr.Alternatives.{IsAlternative}
use Rattle.md_recog.specs.declared.recog.FormMatch.{FormMatch}
use Rattle.md_desc.specs.declared.output.Chosen.{Chosen}
use Rattle.md_desc.specs.Recog.{is_usable, is_printed, IsLowest}
use Rattle.md_desc.specs.machine.Steps.{Counts}

-- no alternative below one can be used
abbrev pub NoneBelow : List Entry → ℕ → Ops → ℕ → Type 0
NoneBelow es form o k = (other : ℕ) → other < k → is_usable es form o other ≡ false

true_false : (b : Bool) → b ≡ true → b ≡ false → ⊥
true_false b t f = let none : true ≡ false = sym t ∙ f in let never : ⊥ = cc in never

module _ (es : List Entry) (form : ℕ) (o : Ops) where
  pub goes_on : (k : ℕ) → NoneBelow es form o k → is_usable es form o k ≡ false → NoneBelow es form o (k + 1)
  goes_on k none unused other below = ⊎_elim (λ before. none other before) (λ same. ap (is_usable es form o) same ∙ unused) (split other k below)
    where
      split : (other k : ℕ) → other < k + 1 → (other < k) ⊎ (other ≡ k)
      split other k h = ⊎_elim (λ below. inl below) (λ above. inr (omega (arith, h, above))) (cases_lt other k)

  pub is_lowest : (k : ℕ) → NoneBelow es form o k → IsAlternative es form k → is_usable es form o k ≡ true → (a : ℕ) → (Some k ≡ Some a) ↔ IsLowest es form o a
  is_lowest k none below used a = (
    λ same. subst (IsLowest es form o) (let one : k ≡ a = cc in one) (record { below = below; usable = used; lower = none }),
    λ lowest. ⊎_elim
        (λ order. ⊎_elim
        (λ before. absurd (true_false (is_usable es form o a) lowest.usable (none a before)))
        (λ after. absurd (true_false (is_usable es form o k) used (lowest.lower k after)))
        order)
        (λ same. ap Some (sym same))
        (order a k),
  )
    where
      order : (a k : ℕ) → ((a < k) ⊎ (k < a)) ⊎ (a ≡ k)
      order a k = ⊎_elim (λ below. inl (inl below)) (λ reached. ⊎_elim (λ above. inl (inr above)) (λ other. inr (omega (arith, reached, other))) (cases_lt k a)) (cases_lt a k)

  pub none_lowest : (k : ℕ) → NoneBelow es form o k → (IsAlternative es form k → ⊥) → (a : ℕ) → (None ≡ Some a) ↔ IsLowest es form o a
  none_lowest k none end a = (
    λ same. absurd (let never : ⊥ = cc in never),
    λ lowest. ⊎_elim
        (λ before. absurd (true_false (is_usable es form o a) lowest.usable (none a before)))
        (λ after. absurd (end (omega (arith, after, lowest.below))))
        (order a k),
  )
    where
      order : (a k : ℕ) → (a < k) ⊎ (k ≤ a)
      order a k = cases_lt a k

-- ---- what a match comes to

pub unprinted : (es : List Entry) (m : FormMatch) → is_printed es m.form ≡ false → (c : Chosen) → (None ≡ Some c) ↔ Counts es m c
unprinted es m e c = (
  λ same. absurd (let never : ⊥ = cc in never),
  λ counts. absurd (true_false (is_printed es m.form) counts.printed e),
)

pub unused : (es : List Entry) (m : FormMatch) → ((a : ℕ) → (None ≡ Some a) ↔ IsLowest es m.form m.operands a) → (c : Chosen) → (None ≡ Some c) ↔ Counts es m c
unused es m none c = (
  λ same. absurd (let never : ⊥ = cc in never),
  λ counts. absurd (let same : None ≡ Some c.alternative = (none c.alternative).1 counts.lowest in let never : ⊥ = cc in never),
)

same_number : (k a : ℕ) → Some k ≡ Some a → k ≡ a
same_number k a e = cc

rebuilt : (m : FormMatch) (k : ℕ) (c : Chosen) → c.form ≡ m.form → c.operands ≡ m.operands → k ≡ c.alternative → ◌≡◌ {A = Chosen} (record { form = m.form; operands = m.operands; alternative = k }) c
rebuilt m k c e f g =
    ap (λ (n : ℕ). record { form = n; operands = m.operands; alternative = k }) (sym e) ∙
    (ap (λ (o : Ops). record { form = c.form; operands = o; alternative = k }) (sym f) ∙ ap (λ (n : ℕ). record { form = c.form; operands = c.operands; alternative = n }) g)

pub counts : (es : List Entry) (m : FormMatch) (k : ℕ) → is_printed es m.form ≡ true → ((a : ℕ) → (Some k ≡ Some a) ↔ IsLowest es m.form m.operands a) →
    (c : Chosen) → (Some (record { form = m.form; operands = m.operands; alternative = k }) ≡ Some c) ↔ Counts es m c
counts es m k printed which c = (
  λ same. subst (Counts es m) (let one : (record { form = m.form; operands = m.operands; alternative = k }) ≡ c = cc in one) (record { form_is = refl; operands_are = refl; printed = printed; lowest = (which k).0 refl }),
  λ h. ap (λ (d : Chosen). Some d) (rebuilt m k c h.form_is h.operands_are (same_number k c.alternative ((which c.alternative).1 h.lowest))),
)
