-- The parts of a head are gathered from the last one on.
use Rattle.std.proofs.Common.{◌≡◌, ℕ, ◌+◌, ◌-◌, ◌<◌, ◌≤◌, ◌⊎◌, inl, inr, List, [], ◌∷◌, length, map, take, drop, get_or, refl, sym, ap, subst, ◌∙◌, arith, length-drop}
use Rattle.std.specs.Prelude.{reverse}
use Rattle.std.proofs.lemmas.Bool.{cases_lt}
use Rattle.std.proofs.lemmas.List.{drop-drop}
use Rattle.c_cond.specs.c_words.declared.head.CondHead.{CondHead}
use Rattle.c_cond.specs.declared.tree.Tree.{Tree}
use Rattle.c_cond.specs.declared.tree.Tree.TheFolds.{fold-roll-Tree}
use Rattle.c_cond.specs.Tree.{size_of, first_or_nothing}
use Rattle.c_eval.specs.declared.reading.Reading.{Reading}
use Rattle.c_eval.specs.declared.walk.Part.{Part}
use Rattle.c_eval.specs.Fold.{fold_by, fold_step}
use Rattle.c_eval.specs.machine.Places.{trees_at, count_at, MoreUpTo, IsPart, EndsPart}
use Rattle.c_eval.proofs.Stacks.{with_head, trees_more, count_more, some_trees}
use Rattle.c_eval.proofs.Lists.{readings_of, reads_one_more, map_reverse, takes_all}

-- The last parts of the head at this place, from `start` on, are so many, and are read so.
pub record Gathers (read : CondHead → List Reading → Reading) (heads : List CondHead) (at size start n : ℕ) (parts : List Reading) : Type 0 where
  pub few : n ≤ size
  pub before : start ≤ at
  pub trees : trees_at heads start ≡ drop n (trees_at heads at)
  pub reads : parts ≡ readings_of read n (trees_at heads at)
  pub inside : MoreUpTo heads start at

pub gathers_none : (read : CondHead → List Reading → Reading) (heads : List CondHead) (at size : ℕ) → Gathers read heads at size at 0 []
gathers_none read heads at size = record { few = omega arith; before = omega arith; trees = refl; reads = refl; inside = λ x past within. absurd (omega arith) }

-- the first tree, and the others
opened : (trees : List Tree) → 0 < length trees → trees ≡ first_or_nothing trees ∷ drop 1 trees
opened [] some = absurd (omega arith)
opened (t ∷ ts) some = refl

pub gathers_more : (read : CondHead → List Reading → Reading) (heads : List CondHead) (at size n : ℕ) (parts : List Reading) (part : Part) → at < length heads → n < size → Gathers read heads at size part.end n parts → IsPart read heads part → Gathers read heads at size part.start (n + 1) (part.reading ∷ parts)
gathers_more read heads at size n parts part within more gathers is = record {
  few = omega arith;
  before = omega (arith, is.some, gathers.before);
  trees = sym is.starts.rest ∙ (ap (drop 1) gathers.trees ∙ drop-drop 1 n all);
  reads = ap (λ (r : Reading). r ∷ parts) is.reads ∙ (ap (λ (rs : List Reading). fold_by read last ∷ rs) gathers.reads ∙ sym (reads_one_more read n last all (drop 1 here) begins));
  inside = λ x past upto. by_place x past upto (cases_lt part.end x);
}
  where
    all : List Tree
    all = trees_at heads at

    here : List Tree
    here = trees_at heads part.end

    last : Tree
    last = first_or_nothing here

    some : 0 < count_at heads part.end
    some = some_trees heads part.end (omega (arith, is.some)) is.within

    begins : drop n all ≡ last ∷ drop 1 here
    begins = sym gathers.trees ∙ opened here some

    fewer : count_at heads part.start < count_at heads part.end
    fewer = is.starts.inside part.end is.some (omega arith)

    by_place : (x : ℕ) → part.start < x → x ≤ at → (part.end < x) ⊎ (x ≤ part.end) → count_at heads part.start < count_at heads x
    by_place x past upto (inl behind) = omega (arith, fewer, gathers.inside x behind upto)
    by_place x past upto (inr inside) = is.starts.inside x past inside

-- another part ends where the parts start
pub gathers_ends : (read : CondHead → List Reading → Reading) (heads : List CondHead) (at start n : ℕ) (parts : List Reading) (h : CondHead) → at < length heads → h ≡ get_or heads at h → 0 < start → n < size_of h → Gathers read heads at (size_of h) start n parts → EndsPart heads at start
gathers_ends read heads at start n parts h within is some more gathers = record {
  some = some;
  before = gathers.before;
  takes = omega (arith, count_more heads at h within is, ap length gathers.trees, length-drop n (trees_at heads at), some_trees heads start some (omega (arith, gathers.before)));
  inside = gathers.inside;
}

-- where no part is left, the head is read with all
pub gathers_all : (read : CondHead → List Reading → Reading) (heads : List CondHead) (at start n : ℕ) (parts : List Reading) (h : CondHead) → at < length heads → h ≡ get_or heads at h → (n ≡ size_of h) ⊎ (start ≡ 0) → Gathers read heads at (size_of h) start n parts → IsPart read heads (record { start = start; end = at + 1; reading = read h parts })
gathers_all read heads at start n parts h within is over gathers = record {
  within = omega arith;
  some = omega (arith, gathers.before);
  starts = record { before = omega (arith, gathers.before); rest = rest; inside = λ x past upto. by_place x past upto (cases_lt at x) };
  reads = ap (read h) (gathers.reads ∙ same_readings) ∙ sym read_whole;
}
  where
    all : List Tree
    all = trees_at heads at

    whole : trees_at heads (at + 1) ≡ with_head h all
    whole = trees_more heads at h within is

    both : (n ≡ size_of h) ⊎ (start ≡ 0) → (take (size_of h) all ≡ take n all) × (drop (size_of h) all ≡ trees_at heads start)
    both (inl full) = (ap (λ (m : ℕ). take m all) (sym full), ap (λ (m : ℕ). drop m all) (sym full) ∙ sym gathers.trees)
    both (inr first) =
        let none : drop n all ≡ [] = sym gathers.trees ∙ ap (trees_at heads) first in
        let taken : (take (size_of h) all ≡ take n all) × (drop (size_of h) all ≡ []) = takes_all n (size_of h) all none gathers.few in
        (taken.0, taken.1 ∙ sym (ap (trees_at heads) first))

    rest : drop 1 (trees_at heads (at + 1)) ≡ trees_at heads start
    rest = ap (drop 1) whole ∙ (both over).1

    same_readings : readings_of read n all ≡ readings_of read (size_of h) all
    same_readings = ap (λ (ts : List Tree). reverse (map (fold_by read) ts)) (sym (both over).0)

    read_whole : fold_by read (first_or_nothing (trees_at heads (at + 1))) ≡ read h (readings_of read (size_of h) all)
    read_whole =
        ap (λ (ts : List Tree). fold_by read (first_or_nothing ts)) whole
        ∙ (fold-roll-Tree Reading (fold_step read) (record { head = h; parts = reverse (take (size_of h) all) })
        ∙ ap (read h) (map_reverse (fold_by read) (take (size_of h) all)))

    by_place : (x : ℕ) → start < x → x ≤ at + 1 → (at < x) ⊎ (x ≤ at) → count_at heads start < count_at heads x
    by_place x past upto (inr earlier) = gathers.inside x past earlier
    by_place x past upto (inl last) =
        let here : at + 1 ≡ x = omega arith in
        subst (λ (y : ℕ). count_at heads start < count_at heads y) here (omega (arith, ap length whole, ap length (both over).1))
