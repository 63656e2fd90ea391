-- The first that is refused, and what is told of groups, one after the other.
use Rattle.std.proofs.Common.{◌≡◌, ℕ, ℤ, ◌+◌, ◌<◌, ◌≤◌, Bool, true, false, List, [], ◌∷◌, length, drop, get_or, Option, Some, None, is_some, add-one, sym, subst}
use Rattle.std.proofs.Math.Seq.{drop-cons}
use Rattle.std.proofs.lemmas.List.{drop_all}
use Rattle.md_desc.specs.md_forms.declared.form.Entry.{Entry}
use Rattle.lint_choices.proofs.PushedLaws.{opened}
use Rattle.lint_groups.specs.declared.group.Group.{Group}
use Rattle.lint_groups.specs.declared.tries.Try.{Try}
use Rattle.lint_groups.specs.Groups.{tries_of}
use Rattle.lint_refused.specs.declared.refused.Refused.{Refused}
use Rattle.lint_refused.specs.Told.{with_told}
use Rattle.lint_shapes.specs.Refused.{Comes, FirstRefused, AreTold}
use Rattle.lint_shapes.specs.machine.Steps.{GroupTold}

-- ---- of one group

-- what is the first of the rest is the first of all
abbrev pub Continues : List Entry → Group → List Try → ℕ → Type 0
Continues forms g ts at = (r : Option Refused) → FirstRefused forms g (drop at ts) r → FirstRefused forms g ts r

no_answer : true ≡ false → ⊥
no_answer e = cc

-- the one here is passed, or is the first
passed : (forms : List Entry) (g : Group) (t : Try) (ts : List Try) (o r : Option Refused) → is_some o ≡ false → Comes forms g t o →
    FirstRefused forms g ts r → FirstRefused forms g (t ∷ ts) r
passed forms g t ts None r none comes rest = FirstRefused.passes t ts r comes rest
passed forms g t ts (Some x) r none comes rest = absurd (no_answer none)

stops : (forms : List Entry) (g : Group) (t : Try) (ts : List Try) (o : Option Refused) → is_some o ≡ true → Comes forms g t o → FirstRefused forms g (t ∷ ts) o
stops forms g t ts None some comes = absurd (no_answer (sym some))
stops forms g t ts (Some x) some comes = FirstRefused.first t ts x comes

pub goes_on : (forms : List Entry) (g : Group) (ts : List Try) (at : ℕ) (t : Try) (o : Option Refused) → at < length ts → t ≡ get_or ts at t → Comes forms g t o → is_some o ≡ false →
    Continues forms g ts at → Continues forms g ts (at + 1)
goes_on forms g ts at t o within here comes none before r rest =
    before r (subst (λ (us : List Try). FirstRefused forms g us r) (sym (opened ts at t within here)) (passed forms g t (drop (at + 1) ts) o r none comes rest))

pub is_first : (forms : List Entry) (g : Group) (ts : List Try) (at : ℕ) (t : Try) (o : Option Refused) → at < length ts → t ≡ get_or ts at t → Comes forms g t o → is_some o ≡ true →
    Continues forms g ts at → FirstRefused forms g ts o
is_first forms g ts at t o within here comes some before =
    before o (subst (λ (us : List Try). FirstRefused forms g us o) (sym (opened ts at t within here)) (stops forms g t (drop (at + 1) ts) o some comes))

pub none_left : (forms : List Entry) (g : Group) (ts : List Try) (at : ℕ) → length ts ≤ at → Continues forms g ts at → FirstRefused forms g ts None
none_left forms g ts at past before =
    before None (subst (λ (us : List Try). FirstRefused forms g us None) (sym (drop_all at ts past)) FirstRefused.none)

-- ---- of several

abbrev pub Goes : List Entry → List ℤ → List Group → ℕ → List Refused → Type 0
Goes forms tested gs at told = (all : List Refused) → AreTold forms tested (drop at gs) told all → AreTold forms tested gs [] all

pub group_told : (forms : List Entry) (tested : List ℤ) (g : Group) (ts : List Try) (r : Option Refused) (told more : List Refused) →
    ts ≡ tries_of forms tested g → FirstRefused forms g ts r → more ≡ with_told told r → GroupTold forms tested g told more
group_told forms tested g ts r told more made one put =
    record { first = r; is_first = subst (λ (us : List Try). FirstRefused forms g us r) made one; made = put }

-- what stands at a place, whatever stands for none, and what stands behind it
opened_at : (gs : List Group) (at : ℕ) (d : Group) → at < length gs → drop at gs ≡ get_or gs at d ∷ drop (at + 1) gs
opened_at gs at d within = rw add-one (drop-cons gs at d within)

pub told_on : (forms : List Entry) (tested : List ℤ) (gs : List Group) (at : ℕ) (d : Group) (told more : List Refused) →
    at < length gs → GroupTold forms tested (get_or gs at d) told more → Goes forms tested gs at told → Goes forms tested gs (at + 1) more
told_on forms tested gs at d told more within one before all rest =
    before all (subst (λ (hs : List Group). AreTold forms tested hs told all) (sym (opened_at gs at d within))
    (AreTold.next (get_or gs at d) (drop (at + 1) gs) one.first told all one.is_first
    (subst (λ (now : List Refused). AreTold forms tested (drop (at + 1) gs) now all) one.made rest)))

pub all_told : (forms : List Entry) (tested : List ℤ) (gs : List Group) (at : ℕ) (told : List Refused) → length gs ≤ at → Goes forms tested gs at told → AreTold forms tested gs [] told
all_told forms tested gs at told past before =
    before told (subst (λ (hs : List Group). AreTold forms tested hs told told) (sym (drop_all at gs past)) (AreTold.none told))
