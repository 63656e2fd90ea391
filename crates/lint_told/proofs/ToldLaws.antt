-- What is told of instances, one after the other.
use Rattle.std.proofs.Common.{◌≡◌, ℕ, ◌+◌, ◌<◌, ◌≤◌, ℤ, Bool, true, false, List, [], length, drop, get_or, Some, None, slice_get, refl, sym, ap, subst, ◌∙◌}
use Rattle.std.proofs.lemmas.List.{drop_all}
use Rattle.std.proofs.lemmas.Option.{get_or_from_slice_get}
use Rattle.md_desc.specs.md_forms.declared.form.Entry.{Entry}
use Rattle.md_desc.specs.md_attr.Alternatives.{form_at}
use Rattle.lint_choices.proofs.PushedLaws.{opened}
use Rattle.lint_judge.specs.declared.judged.Judged.{Judged}
use Rattle.lint_tried.specs.Tried.{instances_tried}
use Rattle.lint_tried.specs.declared.instance.Instance.{Instance}
use Rattle.lint_told.specs.declared.told.Told.{Told}
use Rattle.lint_told.specs.declared.told.Told.TheVariants as told
use Rattle.lint_told.specs.Told.{IsWrong, IsRight, IsElsewhere, InstancesTold, unreached, right, wrong, goes_on, passes, IsTold}

-- what is told of the rest from a place on is told of all
abbrev pub Continues : List Entry → ℕ → ℕ → List Instance → Bool → ℕ → Type 0
Continues forms form alternative is reached at =
    (t : Told) → InstancesTold forms form alternative reached (drop at is) t → InstancesTold forms form alternative false is t

pub goes_on_at : (forms : List Entry) (form alternative : ℕ) (is : List Instance) (at : ℕ) (i : Instance) (reached : Bool) →
    at < length is → i ≡ get_or is at i → IsRight forms form alternative i →
    Continues forms form alternative is reached at → Continues forms form alternative is true (at + 1)
goes_on_at forms form alternative is at i reached within here fine before t rest =
    before t (subst (λ (js : List Instance). InstancesTold forms form alternative reached js t) (sym (opened is at i within here)) (goes_on reached i (drop (at + 1) is) t fine rest))

pub passes_at : (forms : List Entry) (form alternative : ℕ) (is : List Instance) (at : ℕ) (i : Instance) (reached : Bool) →
    at < length is → i ≡ get_or is at i → IsElsewhere forms form alternative i →
    Continues forms form alternative is reached at → Continues forms form alternative is reached (at + 1)
passes_at forms form alternative is at i reached within here other before t rest =
    before t (subst (λ (js : List Instance). InstancesTold forms form alternative reached js t) (sym (opened is at i within here)) (passes reached i (drop (at + 1) is) t other rest))

pub wrong_at : (forms : List Entry) (form alternative : ℕ) (is : List Instance) (at : ℕ) (i : Instance) (reached : Bool) (judged : Judged) →
    at < length is → i ≡ get_or is at i → IsWrong forms form alternative i judged →
    Continues forms form alternative is reached at → (j : Instance) → slice_get is at ≡ Some j → InstancesTold forms form alternative false is (told.Wrong j judged)
wrong_at forms form alternative is at i reached judged within here bad before j there =
    let same : i ≡ j = here ∙ get_or_from_slice_get is at j i there in
    subst (λ (k : Instance). InstancesTold forms form alternative false is (told.Wrong k judged)) same
    (before (told.Wrong i judged) (subst (λ (js : List Instance). InstancesTold forms form alternative reached js (told.Wrong i judged)) (sym (opened is at i within here)) (wrong reached i (drop (at + 1) is) judged bad)))

pub ends_right : (forms : List Entry) (form alternative : ℕ) (is : List Instance) (at : ℕ) (reached : Bool) → length is ≤ at → reached ≡ true →
    Continues forms form alternative is reached at → InstancesTold forms form alternative false is told.Right
ends_right forms form alternative is at reached past some before =
    before told.Right (subst (λ (b : Bool). InstancesTold forms form alternative b (drop at is) told.Right) (sym some) (subst (λ (js : List Instance). InstancesTold forms form alternative true js told.Right) (sym (drop_all at is past)) right))

pub ends_unreached : (forms : List Entry) (form alternative : ℕ) (is : List Instance) (at : ℕ) (reached : Bool) → length is ≤ at → reached ≡ false →
    Continues forms form alternative is reached at → InstancesTold forms form alternative false is told.Unreached
ends_unreached forms form alternative is at reached past none before =
    before told.Unreached (subst (λ (b : Bool). InstancesTold forms form alternative b (drop at is) told.Unreached) (sym none) (subst (λ (js : List Instance). InstancesTold forms form alternative false js told.Unreached) (sym (drop_all at is past)) unreached))

-- the instances of an alternative are those that are looked at
pub is_told : (forms : List Entry) (tested : List ℤ) (form alternative : ℕ) (is : List Instance) (tried : ℕ) (t : Told) →
    is ≡ instances_tried forms tested form alternative → tried ≡ length is → InstancesTold forms form alternative false is t →
    IsTold forms tested form alternative (record { tried = tried; told = t })
is_told forms tested form alternative is tried t made count told =
    record {
      tried_is = count ∙ ap (λ (js : List Instance). length js) made;
      told_is = subst (λ (js : List Instance). InstancesTold forms form alternative false js t) made told;
    }

-- of a form that is not accepted nothing is tried
pub none_tried : (forms : List Entry) (tested : List ℤ) (form alternative : ℕ) → form_at forms form ≡ None →
    IsTold forms tested form alternative (record { tried = 0; told = told.Unreached })
none_tried forms tested form alternative none =
    let nothing : instances_tried forms tested form alternative ≡ [] = rw none refl in
    record {
      tried_is = sym (ap (λ (js : List Instance). length js) nothing);
      told_is = subst (λ (js : List Instance). InstancesTold forms form alternative false js told.Unreached) (sym nothing) unreached;
    }
