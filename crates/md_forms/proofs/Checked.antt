-- A form has the smallest of its reasons.
use Rattle.std.proofs.Common.{◌≡◌, ◌≤◌, ◌⊎◌, inl, inr, ⊎_elim, ℕ, Bool, true, false, true≢false, if◌then◌else◌, List, [], ◌∷◌, Option, Some, None, Result, Ok, Err, refl, sym, ap, subst, ◌∙◌, arith}
use Rattle.std.specs.List.{find}
use Rattle.rtx_tree.specs.declared.constants.Constant.{Constant}
use Rattle.md_iter.specs.declared.substitution.Instance.{Instance}
use Rattle.md_tables.specs.md_pattern.declared.reason.Reason.{Reason}
use Rattle.md_tables.specs.md_pattern.declared.reason.Reason.TheVariants as reason
use Rattle.md_tables.specs.md_pattern.Reason.{number_of, judged_map, IsSmallest}
use Rattle.md_tables.specs.md_draft.declared.draft.Draft.{Draft}
use Rattle.md_tables.specs.md_draft.Reasons as draft
use Rattle.md_tables.proofs.md_pattern.Smallest.{change}
use Rattle.md_tables.proofs.md_draft.Reasons.{of_entry}
use Rattle.md_tables.specs.declared.tables.Tables.{Tables}
use Rattle.md_forms.specs.Checks.{constraints_of, has_reason, later_reasons, reason_of, form_with, unless, form_of}
use Rattle.md_forms.specs.machine.Steps.{checked}
use Rattle.md_forms.specs.Forms.{draft_entry, judged_form}
use Rattle.md_forms.specs.Reasons.{Applies, tables_in, judged_in}

-- ---- the code's steps

-- what is made of a thing that some reason may keep from being made
made_unless : {A B : Type 0} (f : A → B) (o : Option Reason) (x : A) →
    judged_map f (unless o x) ≡ unless o (f x)
made_unless f None x = refl
made_unless f (Some r) x = refl

module _ (tables : Tables) (d : Draft) where
  pub form_made : judged_map (form_with d) (checked tables d) ≡ form_of tables d
  unfolding checked form_of
  form_made = made_unless (form_with d) (reason_of tables d) (constraints_of tables d)

-- ---- the smallest of the later reasons

abbrev Among : Reason → List Reason → Type 0
Among s [] = ⊥
Among s (r ∷ rs) = (s ≡ r) ⊎ Among s rs

-- in the order of their numbers, from a number on
abbrev Ascending : ℕ → List Reason → Type 0
Ascending n [] = Unit {0}
Ascending n (r ∷ rs) = (n ≤ number_of r) × Ascending (number_of r) rs

least_of : (n : ℕ) (rs : List Reason) → Ascending n rs → (s : Reason) → Among s rs → n ≤ number_of s
least_of n [] up s none = absurd none
least_of n (r ∷ rs) up s (inl same) = let is : number_of s ≡ number_of r = ap number_of same in let first = up.0 in omega (arith, is, first)
least_of n (r ∷ rs) up s (inr more) = let x = least_of (number_of r) rs up.1 s more in let first = up.0 in omega (arith, first, x)

not_both : {A : Type 0} (b : Bool) → b ≡ false → b ≡ true → A
not_both b wrong right = absurd (true≢false (sym right ∙ wrong))

module _ (p : Reason → Bool) {A : Type 0} (x : A) where
  abbrev Here : List Reason → Reason → Type 0
  Here rs s = (p s ≡ true) × Among s rs

  one_more : (r : Reason) (rs : List Reason) → Ascending (number_of r) rs → (b : Bool) → p r ≡ b → IsSmallest (Here rs) (unless (find p rs) x) → IsSmallest (Here (r ∷ rs)) (unless (if b then Some r else find p rs) x)
  one_more r rs up true e ih =
      ((e, inl refl), λ s has. ⊎_elim (λ (same : s ≡ r). let is : number_of s ≡ number_of r = ap number_of same in omega (arith, is)) (λ (more : Among s rs). least_of (number_of r) rs up s more) has.1)
  one_more r rs up false e ih =
      change (Here rs) (Here (r ∷ rs)) (unless (find p rs) x) (λ s has. (has.0, inr has.1)) (λ s has. (has.0, ⊎_elim (λ (same : s ≡ r). not_both (p s) (ap p same ∙ e) has.0) (λ (more : Among s rs). more) has.1)) ih

  first_least : (n : ℕ) (rs : List Reason) → Ascending n rs → IsSmallest (Here rs) (unless (find p rs) x)
  first_least n [] up = λ s has. has.1
  first_least n (r ∷ rs) up = one_more r rs up.1 (p r) refl (first_least (number_of r) rs up.1)

module _ (tables : Tables) (d : Draft) where
  among : (s : Reason) → has_reason tables d s ≡ true → Among s later_reasons
  among reason.Predicate has = inl refl
  among reason.Constraint has = inr (inl refl)
  among reason.Attribute has = inr (inr (inl refl))
  among reason.Operands has = inr (inr (inr (inl refl)))
  among reason.Template has = inr (inr (inr (inr (inl refl))))
  among reason.Head has = absurd (true≢false (sym has))
  among reason.Parts has = absurd (true≢false (sym has))
  among reason.Code has = absurd (true≢false (sym has))
  among reason.Mode has = absurd (true≢false (sym has))
  among reason.CCode has = absurd (true≢false (sym has))
  among reason.Condition has = absurd (true≢false (sym has))
  among reason.Statements has = absurd (true≢false (sym has))

  ascending : Ascending 0 later_reasons
  ascending = (omega arith, (omega arith, (omega arith, (omega arith, (omega arith, tt)))))

  later_smallest : IsSmallest (λ s. has_reason tables d s ≡ true) (form_of tables d)
  unfolding form_of
  later_smallest = change (Here (has_reason tables d) (form_with d (constraints_of tables d)) later_reasons) (λ s. has_reason tables d s ≡ true) (form_of tables d) (λ s has. has.0) (λ s has. (has, among s has))
      (first_least (has_reason tables d) (form_with d (constraints_of tables d)) 0 later_reasons ascending)

-- ---- all reasons

ok_is : (e d : Draft) → ◌≡◌ {A = Result Draft Reason} (Ok e) (Ok d) → e ≡ d
ok_is e d same = cc

ok_err : (e : Draft) (r : Reason) → ◌≡◌ {A = Result Draft Reason} (Ok e) (Err r) → ⊥
ok_err e r same = cc

module _ (constants : List Constant) (tables : Tables) (form : Instance) where
  by_draft : (r : Result Draft Reason) → (draft_entry constants form).draft ≡ r → IsSmallest (draft.Applies constants form.conditions form.tree) r → IsSmallest (Applies constants tables form) (judged_form tables r)
  by_draft (Ok d) is none = change (λ s. has_reason tables d s ≡ true) (Applies constants tables form) (form_of tables d) (λ s has. Applies.other d s is has) back (later_smallest tables d)
    where
      back : (s : Reason) → Applies constants tables form s → has_reason tables d s ≡ true
      back s (Applies.own _ own) = absurd (none s own)
      back s (Applies.other e _ other has) = let same : e ≡ d = ok_is e d (sym other ∙ is) in subst (λ (x : Draft). has_reason tables x s ≡ true) same has
  by_draft (Err r) is least = (Applies.own r least.0, behind)
    where
      behind : (s : Reason) → Applies constants tables form s → number_of r ≤ number_of s
      behind s (Applies.own _ own) = least.1 s own
      behind s (Applies.other e _ other has) = absurd (ok_err e r (sym other ∙ is))

pub smallest : (constants : List Constant) (forms : List Instance) (form : Instance) → IsSmallest (Applies constants (tables_in constants forms) form) (judged_in constants forms form)
smallest constants forms form = by_draft constants (tables_in constants forms) form (draft_entry constants form).draft refl (of_entry constants form.conditions form.tree)
