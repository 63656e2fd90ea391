-- Where a tree starts, and where its parent stands.
use Rattle.std.proofs.Common.{◌≡◌, ℕ, zero, suc, ◌+◌, ◌-◌, ◌*◌, ◌<◌, ◌≤◌, ◌⊎◌, inl, inr, List, [], ◌∷◌, length, drop, get_or, refl, ap, subst, ◌∙◌, sym, arith, length-drop}
use Rattle.std.proofs.lemmas.Bool.{cases_lt}
use Rattle.c_cond.specs.c_words.declared.head.CondHead.{CondHead}
use Rattle.c_cond.specs.declared.tree.Tree.{Tree}
use Rattle.c_cond.specs.Tree.{size_of}
use Rattle.c_eval.specs.machine.Places.{trees_at, count_at, MoreUpTo, IsStart, IsParent}
use Rattle.c_eval.proofs.Stacks.{count_more, some_trees, drop_more}

-- ---- backwards, to where a tree starts

-- Back from `end` to `start`, so many trees are still missing of those that the last tree is made of.
pub record Scans (heads : List CondHead) (end start missing : ℕ) : Type 0 where
  pub before : start ≤ end
  pub few : missing ≤ 2 * (end - start) + 1
  pub rest : drop 1 (trees_at heads end) ≡ drop missing (trees_at heads start)
  pub inside : (x : ℕ) → start < x → x ≤ end → length (drop 1 (trees_at heads end)) < count_at heads x

pub scans_first : (heads : List CondHead) (end : ℕ) → Scans heads end end 1
scans_first heads end = record { before = omega arith; few = omega arith; rest = refl; inside = λ x past within. absurd (omega arith) }

-- where trees are missing, there are more trees than without the last
more_here : (heads : List CondHead) (end place missing : ℕ) → 0 < place → place ≤ length heads → 0 < missing → drop 1 (trees_at heads end) ≡ drop missing (trees_at heads place) → length (drop 1 (trees_at heads end)) < count_at heads place
more_here heads end place missing some within lacks rest =
    let there = some_trees heads place some within in
    omega (arith, ap length rest, length-drop missing (trees_at heads place))

one_back : (heads : List CondHead) (end start missing next : ℕ) (h : CondHead) → end ≤ length heads → Scans heads end (start + 1) missing → 0 < missing → h ≡ get_or heads start h → size_of h ≤ 3 → next + 1 ≡ missing + size_of h → Scans heads end start next
one_back heads end start missing next h within scans lacks is small e = record {
  before = omega (arith, scans.before);
  few = omega (arith, scans.before, scans.few);
  rest = scans.rest ∙ drop_more heads start missing next h here is e lacks;
  inside = λ x past upto. by_place x past upto (cases_lt (start + 1) x);
}
  where
    here : start < length heads
    here = omega (arith, scans.before)

    by_place : (x : ℕ) → start < x → x ≤ end → (start + 1 < x) ⊎ (x ≤ start + 1) → length (drop 1 (trees_at heads end)) < count_at heads x
    by_place x past upto (inl further) = scans.inside x further upto
    by_place x past upto (inr near) =
        let at : start + 1 ≡ x = omega arith in
        subst (λ (y : ℕ). length (drop 1 (trees_at heads end)) < count_at heads y) at
        (more_here heads end (start + 1) missing (omega arith) (omega (arith, scans.before)) lacks scans.rest)

pub scans_back : (heads : List CondHead) (end start back missing next : ℕ) (h : CondHead) → end ≤ length heads → Scans heads end start missing → start ≡ back + 1 → 0 < missing → h ≡ get_or heads back h → size_of h ≤ 3 → next + 1 ≡ missing + size_of h → Scans heads end back next
scans_back heads end start back missing next h within scans one lacks is small e =
    one_back heads end back missing next h within (subst (λ (s : ℕ). Scans heads end s missing) one scans) lacks is small e

no_trees : (missing : ℕ) (trees : List Tree) → (missing ≡ 0) ⊎ (trees ≡ []) → drop missing trees ≡ trees
no_trees missing trees (inl none) = ap (λ (m : ℕ). drop m trees) none
no_trees zero trees (inr empty) = refl
no_trees (suc missing) trees (inr empty) = ap (drop (suc missing)) empty ∙ sym empty

none_missing : (heads : List CondHead) (start missing : ℕ) → (missing ≡ 0) ⊎ (start ≡ 0) → drop missing (trees_at heads start) ≡ trees_at heads start
none_missing heads start missing (inl none) = no_trees missing (trees_at heads start) (inl none)
none_missing heads start missing (inr first) = no_trees missing (trees_at heads start) (inr (ap (trees_at heads) first))

pub scans_last : (heads : List CondHead) (end start missing : ℕ) → Scans heads end start missing → (missing ≡ 0) ⊎ (start ≡ 0) → IsStart heads end start
scans_last heads end start missing scans over =
    let rest : drop 1 (trees_at heads end) ≡ trees_at heads start = scans.rest ∙ none_missing heads start missing over in
    record {
      before = scans.before;
      rest = rest;
      inside = λ x past upto. subst (λ (n : ℕ). n < count_at heads x) (ap length rest) (scans.inside x past upto);
    }

-- ---- forwards, to where the parent stands

-- From `from` on to this place, so many trees are later ones.
pub record Seeks (heads : List CondHead) (from at later : ℕ) : Type 0 where
  pub behind : later + from ≤ at
  pub count : count_at heads at ≡ later + count_at heads from
  pub inside : MoreUpTo heads from at

pub seeks_first : (heads : List CondHead) (from : ℕ) → Seeks heads from from 0
seeks_first heads from = record { behind = omega arith; count = omega arith; inside = λ x past within. absurd (omega arith) }

pub seeks_on : (heads : List CondHead) (from at later next : ℕ) (h : CondHead) → Seeks heads from at later → at < length heads → h ≡ get_or heads at h → size_of h ≤ later → next + size_of h ≡ later + 1 → Seeks heads from (at + 1) next
seeks_on heads from at later next h seeks within is fits e = record {
  behind = omega (arith, seeks.behind);
  count = count;
  inside = λ x past upto. by_place x past upto (cases_lt at x);
}
  where
    count : count_at heads (at + 1) ≡ next + count_at heads from
    count = omega (arith, count_more heads at h within is, seeks.count)

    by_place : (x : ℕ) → from < x → x ≤ at + 1 → (at < x) ⊎ (x ≤ at) → count_at heads from < count_at heads x
    by_place x past upto (inr earlier) = seeks.inside x past earlier
    by_place x past upto (inl new) =
        let here : at + 1 ≡ x = omega arith in
        subst (λ (y : ℕ). count_at heads from < count_at heads y) here (omega (arith, count))

pub seeks_found : (heads : List CondHead) (from end at later : ℕ) (h : CondHead) → end ≤ length heads → at < end → count_at heads end ≤ count_at heads from → Seeks heads from at later → h ≡ get_or heads at h → later < size_of h → IsParent heads from end at
seeks_found heads from end at later h within before taken seeks is large =
    let some = some_trees heads end (omega arith) within in
    record {
      behind = omega (arith, seeks.behind);
      before = before;
      takes = omega (arith, count_more heads at h (omega arith) is, seeks.count);
      inside = seeks.inside;
    }

-- the end is never reached
pub seeks_finds : (heads : List CondHead) (from end later : ℕ) → from < end → count_at heads end ≤ count_at heads from → Seeks heads from end later → ⊥
seeks_finds heads from end later some taken seeks =
    let more = seeks.inside end some (omega arith) in
    omega arith
