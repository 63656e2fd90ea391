-- The head and the parts of a tree that ends among heads.
use Rattle.std.proofs.Common.{◌≡◌, ◌⊎◌, inl, inr, ℕ, suc, ◌+◌, ◌-◌, ◌<◌, ◌≤◌, List, [], ◌∷◌, ◌++◌, length, map, take, drop, get_or, refl, sym, ap, subst, ◌∙◌, arith}
use Rattle.std.specs.Prelude.{reverse}
use Rattle.std.specs.List.{AllByRecursion}
use Rattle.std.proofs.Math.Seq.{take-append_seam}
use Rattle.std.proofs.lemmas.List.{take_all, append-nil}
use Rattle.c_words.specs.declared.head.CondHead.{CondHead}
use Rattle.c_cond.specs.declared.tree.Tree.{Tree, out-roll-Tree}
use Rattle.c_cond.specs.declared.tree.Tree.TheOpen.{Tree-F}
use Rattle.c_cond.specs.Tree.{node, size_of, first_or_nothing}
use Rattle.c_eval.specs.machine.Places.{trees_at}
use Rattle.c_eval.proofs.Stacks.{trees_more, some_trees}
use Rattle.gen_emit.specs.Statements.{mode_in, mode_of}
use Rattle.gen_emit.specs.declared.layout.Parts.{Parts}
use Rattle.gen_emit.specs.machine.Layout.{tree_at, IsBefore, IsEnd, ends_of, IsMade}

-- ---- the trees before a place

pub is_end : (heads : List CondHead) (at end : ℕ) → (end ≡ 0 → ⊥) → end ≤ at → at ≤ length heads → IsEnd heads end
is_end heads at end some before within = record { some = omega (arith, some); within = omega (arith, before, within) }

opened : (trees : List Tree) → 0 < length trees → trees ≡ first_or_nothing trees ∷ drop 1 trees
opened [] some = absurd (omega (arith, some))
opened (t ∷ ts) some = refl

opened_at : (heads : List CondHead) (end : ℕ) → IsEnd heads end → trees_at heads end ≡ tree_at heads end ∷ drop 1 (trees_at heads end)
opened_at heads end is = opened (trees_at heads end) (some_trees heads end is.some is.within)

-- the last tree, and those before it
pub trees_end : (heads : List CondHead) (end start : ℕ) → IsEnd heads end → IsBefore heads end start → trees_at heads end ≡ tree_at heads end ∷ trees_at heads start
trees_end heads end start is before =
    opened_at heads end is ∙ ap (λ (ts : List Tree). tree_at heads end ∷ ts) (sym before.rest)

none_at : (heads : List CondHead) (place : ℕ) → place ≡ 0 → trees_at heads place ≡ []
none_at heads place first = ap (trees_at heads) first

-- ---- the last parts

-- so many trees as there are, up to a count
abbrev pub Reaches : ℕ → ℕ → List Tree → Type 0
Reaches count n rest = (count ≡ n) ⊎ ((n ≤ count) × (rest ≡ []))

took : (count : ℕ) (trees front rest : List Tree) → trees ≡ front ++ rest → Reaches count (length front) rest → front ≡ take count trees
took count trees front rest are (inl same) =
    sym (ap (take count) are ∙ (ap (λ (n : ℕ). take n (front ++ rest)) same ∙ take-append_seam front rest))
took count trees front rest are (inr (more, none)) =
    let whole : trees ≡ front = are ∙ (ap (λ (r : List Tree). front ++ r) none ∙ append-nil front) in
    sym (ap (take count) whole ∙ take_all count front more)

module _ (heads : List CondHead) (at second : ℕ) (end : IsEnd heads at) (before : IsBefore heads at second) where
  one_part : (count : ℕ) → Reaches count 1 (trees_at heads second) → tree_at heads at ∷ [] ≡ reverse (take count (trees_at heads at))
  one_part count reaches = ap reverse (took count (trees_at heads at) (tree_at heads at ∷ []) (trees_at heads second) (trees_end heads at second end before) reaches)

  pub one_of : (count : ℕ) → (count ≡ 0 → ⊥) → (count ≡ 1) ⊎ ((count ≡ 1 → ⊥) × (second ≡ 0)) → tree_at heads at ∷ [] ≡ reverse (take count (trees_at heads at))
  one_of count some (inl one) = one_part count (inl one)
  one_of count some (inr (other, first)) = one_part count (inr (omega (arith, some), none_at heads second first))

  module _ (third : ℕ) (inner : IsEnd heads second) (further : IsBefore heads second third) where
    two_trees : trees_at heads at ≡ tree_at heads at ∷ (tree_at heads second ∷ trees_at heads third)
    two_trees = trees_end heads at second end before ∙ ap (λ (ts : List Tree). tree_at heads at ∷ ts) (trees_end heads second third inner further)

    two_parts : (count : ℕ) → Reaches count 2 (trees_at heads third) → tree_at heads second ∷ tree_at heads at ∷ [] ≡ reverse (take count (trees_at heads at))
    two_parts count reaches = ap reverse (took count (trees_at heads at) (tree_at heads at ∷ tree_at heads second ∷ []) (trees_at heads third) two_trees reaches)

    pub two_of : (count : ℕ) → (count ≡ 0 → ⊥) → (count ≡ 1 → ⊥) → (count ≡ 2) ⊎ ((count ≡ 2 → ⊥) × (third ≡ 0)) → tree_at heads second ∷ tree_at heads at ∷ [] ≡ reverse (take count (trees_at heads at))
    two_of count some more (inl two) = two_parts count (inl two)
    two_of count some more (inr (other, first)) = two_parts count (inr (omega (arith, some, more), none_at heads third first))

    pub three_of : (count : ℕ) → count ≡ 3 → IsEnd heads third →
        tree_at heads third ∷ tree_at heads second ∷ tree_at heads at ∷ [] ≡ reverse (take count (trees_at heads at))
    three_of count three outer =
        ap reverse (took count (trees_at heads at) (tree_at heads at ∷ tree_at heads second ∷ tree_at heads third ∷ []) (drop 1 (trees_at heads third))
        (two_trees ∙ ap (λ (ts : List Tree). tree_at heads at ∷ (tree_at heads second ∷ ts)) (opened_at heads third outer)) (inl three))

-- ---- a tree

tree_more : (heads : List CondHead) (at : ℕ) (h : CondHead) → at < length heads → h ≡ get_or heads at h → tree_at heads (at + 1) ≡ node h (reverse (take (size_of h) (trees_at heads at)))
tree_more heads at h within is = ap first_or_nothing (trees_more heads at h within is)

tree_end : (heads : List CondHead) (end : ℕ) (h : CondHead) → IsEnd heads end → h ≡ get_or heads (end - 1) h → tree_at heads end ≡ node h (reverse (take (size_of h) (trees_at heads (end - 1))))
tree_end heads end h is at =
    let same : end - 1 + 1 ≡ end = omega (arith, is.some) in
    sym (ap (tree_at heads) same) ∙ tree_more heads (end - 1) h (omega (arith, is.some, is.within)) at

pub is_made : (heads : List CondHead) (end count : ℕ) (h : CondHead) (parts : Parts) → IsEnd heads end → h ≡ get_or heads (end - 1) h → count ≡ size_of h →
    map (tree_at heads) (ends_of parts) ≡ reverse (take count (trees_at heads (end - 1))) → AllByRecursion (IsEnd heads) (ends_of parts) → IsMade heads end h parts
is_made heads end count h parts is at size are ends = record {
  tree = tree_end heads end h is at ∙ sym (ap (node h) (are ∙ ap (λ (n : ℕ). reverse (take n (trees_at heads (end - 1)))) size));
  ends = ends;
}

pub mode_at : (heads : List CondHead) (end : ℕ) (h : CondHead) → IsEnd heads end → h ≡ get_or heads (end - 1) h → mode_in h ≡ mode_of (tree_at heads end)
mode_at heads end h is at =
    sym (ap mode_of (tree_end heads end h is at) ∙ ap (λ (o : Tree-F Tree). mode_in o.head) (out-roll-Tree _))
