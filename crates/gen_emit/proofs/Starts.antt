-- Where trees start among heads.
use Rattle.std.proofs.Common.{◌≡◌, ◌⊎◌, inl, inr, ⊎_elim, ℕ, zero, suc, ◌+◌, ◌-◌, ◌<◌, ◌≤◌, List, [], ◌∷◌, ◌++◌, length, map, take, drop, get_or, refl, sym, ap, subst, ◌∙◌, arith}
use Rattle.std.specs.Prelude.{slice_index_or}
use Rattle.std.proofs.lemmas.Bool.{cases_lt}
use Rattle.std.proofs.Math.Seq.{get_or-append_seam}
use Rattle.std.proofs.lemmas.List.{drop-drop, get_or_append_left, length-append}
use Rattle.c_words.specs.declared.head.CondHead.{CondHead}
use Rattle.c_cond.specs.Tree.{size_of}
use Rattle.c_eval.specs.machine.Places.{trees_at}
use Rattle.c_eval.proofs.Stacks.{trees_more}
use Rattle.gen_emit.specs.machine.Layout.{IsBefore, AreStarts, AreAllStarts}

-- ---- one tree back

pub before_none : (heads : List CondHead) (end : ℕ) → (0 < end → ⊥) → IsBefore heads end 0
before_none heads zero none = record { back = omega arith; rest = refl }
before_none heads (suc end) none = absurd (none (omega arith))

pub before_some : (heads : List CondHead) (starts : List ℕ) (end : ℕ) → AreStarts heads starts → end ≤ length starts → 0 < end → IsBefore heads end (slice_index_or starts (end - 1) 0)
before_some heads starts end are within some =
    subst (λ (e : ℕ). IsBefore heads e (slice_index_or starts (end - 1) 0)) (let e : end - 1 + 1 ≡ end = omega (arith, some) in e) (are (end - 1) (omega (arith, some, within)))

-- ---- many trees back

pub record IsBack (heads : List CondHead) (end count place : ℕ) : Type 0 where
  pub back : place ≤ end
  pub trees : trees_at heads place ≡ drop count (trees_at heads end)

pub back_none : (heads : List CondHead) (end : ℕ) → IsBack heads end 0 end
back_none heads end = record { back = omega arith; trees = refl }

pub back_more : (heads : List CondHead) (end count place next : ℕ) → IsBack heads end count place → IsBefore heads place next → IsBack heads end (count + 1) next
back_more heads end count place next is more = record {
  back = omega (arith, is.back, more.back);
  trees = more.rest ∙ (ap (drop 1) is.trees ∙ drop-drop 1 count (trees_at heads end));
}

-- ---- all starts

pub starts_none : (heads : List CondHead) → AreStarts heads []
starts_none heads at less = absurd (omega (arith, less))

pub start_of : (heads : List CondHead) (at start count : ℕ) (h : CondHead) → at < length heads → h ≡ get_or heads at h → count ≡ size_of h → IsBack heads at count start → IsBefore heads (at + 1) start
start_of heads at start count h within is size back = record {
  back = omega (arith, back.back);
  rest = back.trees ∙ (ap (λ (n : ℕ). drop n (trees_at heads at)) size ∙ sym (ap (drop 1) (trees_more heads at h within is)));
}

pub starts_more : (heads : List CondHead) (starts : List ℕ) (start : ℕ) → AreStarts heads starts → IsBefore heads (length starts + 1) start → AreStarts heads (starts ++ start ∷ [])
starts_more heads starts start are is at less = by_place (cases_lt at (length starts))
  where
    by_place : (at < length starts) ⊎ (length starts ≤ at) → IsBefore heads (at + 1) (slice_index_or (starts ++ start ∷ []) at 0)
    by_place (inl within) = subst (IsBefore heads (at + 1)) (sym (get_or_append_left starts (start ∷ []) 0 at within)) (are at within)
    by_place (inr behind) =
        let last : at ≡ length starts = omega (arith, less, behind, length-append starts (start ∷ [])) in
        subst (λ (n : ℕ). IsBefore heads (n + 1) (slice_index_or (starts ++ start ∷ []) n 0)) (sym last)
        (subst (IsBefore heads (length starts + 1)) (sym (get_or-append_seam starts start [] 0)) is)

pub all_starts : (heads : List CondHead) (starts : List ℕ) (at : ℕ) → AreStarts heads starts → length starts ≡ at → at ≤ length heads → length heads ≤ at → AreAllStarts heads starts
all_starts heads starts at are long within whole = record { each = are; all = omega (arith, long, within, whole) }
