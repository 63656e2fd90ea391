-- What the tables of a description tell of its forms.
use Rattle.std.proofs.Common.{◌≡◌, ◌↔◌, ◌≤◌, ◌<◌, ℕ, Bool, List, [], ◌∷◌, length, Option, Some, None, Result, Ok, Err, refl, subst, arith}
use Rattle.std.specs.Prelude.{IfOk, IfSome}
use Rattle.std.proofs.lemmas.Option.{slice_get_within}
use Rattle.rtx_tree.specs.declared.code.Mode.{Mode}
use Rattle.rtx_tree.specs.declared.tree.Rtx.{Rtx}
use Rattle.c_eval.specs.declared.facts.Facts.{Facts}
use Rattle.md_match.specs.Pattern.{Ops}
use Rattle.rtx_tree.specs.Limit.{most_forms}
use Rattle.md_forms.specs.declared.form.Entry.{Entry}
use Rattle.md_pred.specs.declared.table.PredTable.{PredTable}
use Rattle.md_pred.specs.Holds.{holds}
use Rattle.md_pred.specs.machine.Table.{accepted_by}
use Rattle.md_constr.specs.declared.table.Constraints.{Constraints}
use Rattle.md_constr.specs.machine.Tables.{AreConstraintsOf}
use Rattle.md_constr.specs.Fits.{fits, number_fits, number_admits}
use Rattle.md_recog.specs.declared.half.Half.TheVariants as half
use Rattle.md_recog.specs.Recog as recog
use Rattle.md_recog.specs.declared.recog.FormMatch.{FormMatch}
use Rattle.md_desc.specs.Recog.{IsFirst, NoneMatches}
use Rattle.md_desc.specs.machine.Steps.{NoneBehind}

-- what holds by the forms that were looked at holds by those of the description, and what the table of predicates accepts is what they accept
by_forms : (P : List Entry → (List ℕ → Rtx → Mode → Bool) → Type 0) (es fs : List Entry) (p : PredTable) → fs ≡ es → accepted_by p ≡ holds fs → P fs (accepted_by p) → P es (holds es)
by_forms P es fs p same accepts h = subst (λ gs. P gs (holds gs)) same (subst (P fs) accepts h)

pub fits_as : (es fs : List Entry) (t : Constraints) (p : PredTable) (form alternative : ℕ) (o : Ops) (r : Bool) → fs ≡ es → AreConstraintsOf t fs → accepted_by p ≡ holds fs →
    ((forms : List Entry) → AreConstraintsOf t forms → r ≡ fits forms (accepted_by p) form alternative o) → r ≡ fits es (holds es) form alternative o
fits_as es fs t p form alternative o r same asks accepts f = by_forms (λ gs a. r ≡ fits gs a form alternative o) es fs p same accepts (f fs asks)

pub number_fits_as : (es fs : List Entry) (t : Constraints) (p : PredTable) (form alternative : ℕ) (o : Ops) (number : ℕ) (r : Bool) → fs ≡ es → AreConstraintsOf t fs → accepted_by p ≡ holds fs →
    ((forms : List Entry) → AreConstraintsOf t forms → r ≡ number_fits forms (accepted_by p) form alternative o number) → r ≡ number_fits es (holds es) form alternative o number
number_fits_as es fs t p form alternative o number r same asks accepts f = by_forms (λ gs a. r ≡ number_fits gs a form alternative o number) es fs p same accepts (f fs asks)

pub number_admits_as : (es fs : List Entry) (t : Constraints) (p : PredTable) (form alternative : ℕ) (o : Ops) (number : ℕ) (x : Rtx) (r : Bool) → fs ≡ es → AreConstraintsOf t fs → accepted_by p ≡ holds fs →
    ((forms : List Entry) → AreConstraintsOf t forms → r ≡ number_admits forms (accepted_by p) form alternative o number x) → r ≡ number_admits es (holds es) form alternative o number x
number_admits_as es fs t p form alternative o number x r same asks accepts f = by_forms (λ gs a. r ≡ number_admits gs a form alternative o number x) es fs p same accepts (f fs asks)

pub first_as : {E : Type 0} (es fs gs : List Entry) (p : PredTable) (facts : Facts) (i : Rtx) (from : ℕ) (r : Result (Option FormMatch) E) → gs ≡ fs → fs ≡ es → accepted_by p ≡ holds fs →
    IfOk r (λ r. (m : FormMatch) → (r ≡ Some m) ↔ recog.IsFirst (accepted_by p) facts half.Insn (i ∷ []) gs from m) → IfOk r (λ r. (m : FormMatch) → (r ≡ Some m) ↔ IsFirst es facts i from m)
first_as es fs gs p facts i from r looked same accepts h =
    by_forms (λ gs a. IfOk r (λ r. (m : FormMatch) → (r ≡ Some m) ↔ recog.IsFirst a facts half.Insn (i ∷ []) gs from m)) es fs p same accepts (subst (λ hs. IfOk r (λ r. (m : FormMatch) → (r ≡ Some m) ↔ recog.IsFirst (accepted_by p) facts half.Insn (i ∷ []) hs from m)) looked h)

pub none_as : {E : Type 0} (es fs gs : List Entry) (p : PredTable) (facts : Facts) (i : Rtx) (from : ℕ) (r : Result (Option FormMatch) E) → gs ≡ fs → fs ≡ es → accepted_by p ≡ holds fs →
    IfOk r (λ r. r ≡ None → recog.NoneBetween (accepted_by p) facts half.Insn (i ∷ []) gs from (length gs)) → IfOk r (λ r. r ≡ None → NoneBehind es facts i from)
none_as es fs gs p facts i from r looked same accepts h =
    by_forms (λ gs a. IfOk r (λ r. r ≡ None → recog.NoneBetween a facts half.Insn (i ∷ []) gs from (length gs))) es fs p same accepts (subst (λ hs. IfOk r (λ r. r ≡ None → recog.NoneBetween (accepted_by p) facts half.Insn (i ∷ []) hs from (length hs))) looked h)

-- where no form from the first on matches, none does
pub none_at_all : {E : Type 0} (es : List Entry) (facts : Facts) (i : Rtx) (r : Result (Option FormMatch) E) → IfOk r (λ r. r ≡ None → NoneBehind es facts i 0) → IfOk r (λ r. r ≡ None → NoneMatches es facts i)
none_at_all es facts i (Ok r) h = λ none form o m. h none form (let least : 0 ≤ form = omega arith in least) (slice_get_within es form m.entry m.at) o m
none_at_all es facts i (Err e) h = tt

-- a match is of one of the forms, which are not too many
pub small_as : {E : Type 0} (es fs : List Entry) (facts : Facts) (i : Rtx) (from : ℕ) (r : Result (Option FormMatch) E) → fs ≡ es → length fs ≤ most_forms → IfOk r (λ r. (m : FormMatch) → (r ≡ Some m) ↔ IsFirst es facts i from m) →
    IfOk r (λ r. IfSome r (λ m. m.form < most_forms))
small_as es fs facts i from (Ok (Some m)) same short h =
    let found = (h m).0 refl in
    let within : m.form < length es = slice_get_within es m.form found.matches.entry found.matches.at in
    let few : length es ≤ most_forms = subst (λ (gs : List Entry). length gs ≤ most_forms) same short in
    omega (arith, within, few)
small_as es fs facts i from (Ok None) same short h = tt
small_as es fs facts i from (Err e) same short h = tt
