-- Numbers that are looked up: one more, and the operands that stand once more.
use Rattle.std.proofs.Common.{◌≡◌, ◌==◌, ◌<◌, ℕ, ◌+◌, ◌-◌, Bool, true, false, cond, ◌&&◌, ◌||◌, List, [], ◌∷◌, Some, drop, slice_get, refl, sym, ap, ◌∙◌, arith}
use Rattle.std.specs.BTreeMap.{is_at}
use Rattle.std.specs.BTreeSet as set
use Rattle.std.specs.BTreeSet.{BTreeSet}
use Rattle.std.specs.Cmp.{unsigned_tied}
use Rattle.std.specs.List.{list_all, list_any}
use Rattle.std.specs.Ordering.{nat_cmp}
use Rattle.std.proofs.lemmas.List.{drop_more}
use Rattle.std.proofs.lemmas.Option.{slice_get_within, get_or_from_slice_get}
use Rattle.md_tables.specs.c_words.declared.head.CondHead.{CondHead}
use Rattle.md_forms.specs.Checks.{has, dup_by}
use Rattle.md_forms.specs.Names.{is_assigned}
use Rattle.md_forms.specs.machine.Steps.{dup_in}

or_cond : (a b : Bool) → cond a true b ≡ (a || b)
or_cond true b = refl
or_cond false b = refl

-- one number more, in front of those that are there
pub has_more : (all : List ℕ) (at k : ℕ) (old new : BTreeSet ℕ) → 0 < at → slice_get all (at - 1) ≡ Some k → ((n : ℕ) → set.contains nat_cmp old n ≡ has (drop at all) n)
    → ((n : ℕ) → set.contains nat_cmp new n ≡ cond (is_at (nat_cmp k) n) true (set.contains nat_cmp old n)) → (n : ℕ) → set.contains nat_cmp new n ≡ has (drop (at - 1) all) n
has_more all at k old new some is were put n =
    let rest = drop (at - 1 + 1) all in
    let place : at ≡ at - 1 + 1 = omega (arith, some) in
    let here : drop (at - 1) all ≡ k ∷ rest = drop_more all (at - 1) k (slice_get_within all (at - 1) k is) ∙ ap (λ m. m ∷ rest) (get_or_from_slice_get all (at - 1) k k is) in
    put n
    ∙ ap (λ b. cond b true (set.contains nat_cmp old n)) (unsigned_tied k n)
    ∙ ap (λ b. cond (k == n) true b) (were n ∙ ap (λ i. has (drop i all) n) place)
    ∙ or_cond (k == n) (has rest n)
    ∙ sym (ap (λ ms. has ms n) here)

-- all operands that stand once more
pub all_dups : (settable : Bool) (numbers : List ℕ) (assigned : BTreeSet ℕ) (heads : List CondHead) → ((n : ℕ) → set.contains nat_cmp assigned n ≡ list_any (is_assigned n) heads)
    → (dups : List ℕ) → list_all (dup_in settable numbers assigned) dups ≡ list_all (dup_by settable numbers heads) dups
all_dups settable numbers assigned heads are [] = refl
all_dups settable numbers assigned heads are (n ∷ ns) =
    ap (λ known. (has numbers n || (settable && known)) && list_all (dup_in settable numbers assigned) ns) (are n)
    ∙ ap (λ rest. dup_by settable numbers heads n && rest) (all_dups settable numbers assigned heads are ns)
