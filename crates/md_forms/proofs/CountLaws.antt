-- What the table of counts says when one form more is counted.
use Rattle.std.proofs.Common.{◌≡◌, ℕ, ◌+◌, ◌<◌, ◌≤◌, Bool, true, false, List, length, take, get_or, refl, sym, ap, ◌∙◌, arith}
use Rattle.std.specs.Str.{bytes_eq}
use Rattle.std.proofs.lemmas.List.{length-take}
use Rattle.std.proofs.lemmas.List.Sums.{count_by_more_yes, count_by_more_no, count_by-le-length}
use Rattle.md_forms.specs.declared.form.Entry.{Entry}
use Rattle.md_forms.specs.declared.shown.HeadCounts.{HeadCounts}
use Rattle.md_forms.specs.Forms.{has_head, count_of}
use Rattle.md_forms.specs.machine.Counts.{count_in, Counts, CountsOneMore}
use Rattle.name_places.proofs.TextKeys.{same_text}

-- a form more was counted
pub counts_next : (old new : HeadCounts) (es : List Entry) (i : ℕ) (e : Entry) → i < length es → e ≡ get_or es i e → Counts old (take i es) → CountsOneMore old new e.head → Counts new (take (i + 1) es)
counts_next old new es i e within is counts more = λ head. by_test head (bytes_eq e.head head) refl
  where
    by_test : (head : List ℕ) (b : Bool) → bytes_eq e.head head ≡ b → count_in new head ≡ count_of head (take (i + 1) es)
    by_test head true has =
        let same : e.head ≡ head = same_text e.head head has in
        let stands : has_head head (get_or es i e) ≡ true = ap (has_head head) (sym is) ∙ has in
        let longer : count_of head (take (i + 1) es) ≡ count_of head (take i es) + 1 = count_by_more_yes (has_head head) es i e within stands in
        ap (λ (h : List ℕ). count_in new h) (sym same) ∙ more.more ∙ ap (λ (h : List ℕ). count_in old h + 1) same ∙ ap (λ (k : ℕ). k + 1) (counts head) ∙ sym longer
    by_test head false other =
        let stands : has_head head (get_or es i e) ≡ false = ap (has_head head) (sym is) ∙ other in
        let longer : count_of head (take (i + 1) es) ≡ count_of head (take i es) = count_by_more_no (has_head head) es i e within stands in
        more.same head other ∙ counts head ∙ sym longer

-- there are no more of a head than there are forms
pub few : (t : HeadCounts) (es : List Entry) (i : ℕ) (head : List ℕ) → i < length es → Counts t (take i es) → count_in t head ≤ i
few t es i head within counts = omega (arith, counts head, count_by-le-length (has_head head) (take i es), length-take {A = Entry})

pub counts_none : (t : HeadCounts) (es : List Entry) → ((head : List ℕ) → count_in t head ≡ 0) → Counts t (take 0 es)
counts_none t es none = none
