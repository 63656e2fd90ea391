-- What the tables of a description tell of the forms that split.
use Rattle.std.proofs.Common.{◌≡◌, ◌↔◌, ℕ, Bool, List, [], ◌∷◌, length, Option, Some, None, Result, subst}
use Rattle.std.specs.Prelude.{IfOk}
use Rattle.rtx_tree.specs.declared.code.Mode.{Mode}
use Rattle.rtx_tree.specs.declared.tree.Rtx.{Rtx}
use Rattle.c_eval.specs.declared.facts.Facts.{Facts}
use Rattle.md_forms.specs.declared.form.Entry.{Entry}
use Rattle.md_desc.specs.md_pred.declared.table.PredTable.{PredTable}
use Rattle.md_desc.specs.md_pred.Holds.{holds}
use Rattle.md_desc.specs.md_pred.machine.Table.{accepted_by}
use Rattle.md_recog.specs.declared.half.Half.TheVariants as half
use Rattle.md_recog.specs.Recog.{IsFirst, NoneBetween}
use Rattle.md_recog.specs.declared.recog.FormMatch.{FormMatch}

-- what holds by the forms that were looked at holds by those of the description, and what the table of predicates accepts is what they accept
by_forms : (P : List Entry → (List ℕ → Rtx → Mode → Bool) → Type 0) (es fs gs : List Entry) (p : PredTable) → gs ≡ fs → fs ≡ es →
    accepted_by p ≡ holds es → P gs (accepted_by p) → P es (holds es)
by_forms P es fs gs p looked same accepts h =
    subst (P es) accepts (subst (λ hs. P hs (accepted_by p)) same (subst (λ hs. P hs (accepted_by p)) looked h))

pub first_as : {E : Type 0} (es fs gs : List Entry) (p : PredTable) (facts : Facts) (i : Rtx) (from : ℕ) (r : Result (Option FormMatch) E) →
    gs ≡ fs → fs ≡ es → accepted_by p ≡ holds es →
    IfOk r (λ r. (m : FormMatch) → (r ≡ Some m) ↔ IsFirst (accepted_by p) facts half.Split (i ∷ []) gs from m) →
    IfOk r (λ r. (m : FormMatch) → (r ≡ Some m) ↔ IsFirst (holds es) facts half.Split (i ∷ []) es from m)
first_as es fs gs p facts i from r looked same accepts h =
    by_forms (λ hs a. IfOk r (λ r. (m : FormMatch) → (r ≡ Some m) ↔ IsFirst a facts half.Split (i ∷ []) hs from m)) es fs gs p looked same
    accepts h

pub none_as : {E : Type 0} (es fs gs : List Entry) (p : PredTable) (facts : Facts) (i : Rtx) (from : ℕ) (r : Result (Option FormMatch) E) →
    gs ≡ fs → fs ≡ es → accepted_by p ≡ holds es →
    IfOk r (λ r. r ≡ None → NoneBetween (accepted_by p) facts half.Split (i ∷ []) gs from (length gs)) →
    IfOk r (λ r. r ≡ None → NoneBetween (holds es) facts half.Split (i ∷ []) es from (length es))
none_as es fs gs p facts i from r looked same accepts h =
    by_forms (λ hs a. IfOk r (λ r. r ≡ None → NoneBetween a facts half.Split (i ∷ []) hs from (length hs))) es fs gs p looked same accepts h
