-- Where the trees among heads stand, as the code finds it. These definitions serve the contracts of
-- private functions alone.
use Rattle.std.specs.Prelude.{◌≡◌, ℕ, ◌+◌, ◌<◌, ◌≤◌, List, [], ◌∷◌, map, length, drop, slice_index_or}
use Rattle.std.specs.List.{AllByRecursion}
use Rattle.c_words.specs.declared.head.CondHead.{CondHead}
use Rattle.c_cond.specs.declared.tree.Tree.{Tree}
use Rattle.c_cond.specs.Tree.{node, first_or_nothing}
use Rattle.c_eval.specs.machine.Places.{trees_at}
use Rattle.gen_emit.specs.declared.layout.Parts.{Parts}
use Rattle.gen_emit.specs.declared.layout.Parts.TheVariants as parts

-- the tree whose last head stands right before a place
abbrev pub tree_at : List CondHead → ℕ → Tree
tree_at heads end = first_or_nothing (trees_at heads end)

-- the place right before the last tree of the heads that end at a place, or the first place where
-- there is none
pub record IsBefore (heads : List CondHead) (end start : ℕ) : Type 0 where
  pub back : start ≤ end
  pub rest : trees_at heads start ≡ drop 1 (trees_at heads end)

-- the starts of the trees that end with the first heads
abbrev pub AreStarts : List CondHead → List ℕ → Type 0
AreStarts heads starts =
    (at : ℕ) → at < length starts → IsBefore heads (at + 1) (slice_index_or starts at 0)

-- the starts of all heads
pub record AreAllStarts (heads : List CondHead) (starts : List ℕ) : Type 0 where
  pub each : AreStarts heads starts
  pub all : length starts ≡ length heads

-- the ends of the parts, from the left
abbrev pub ends_of : Parts → List ℕ
ends_of parts.None = []
ends_of (parts.One a) = a ∷ []
ends_of (parts.Two a b) = a ∷ b ∷ []
ends_of (parts.Three a b c) = a ∷ b ∷ c ∷ []

-- a tree ends here
pub record IsEnd (heads : List CondHead) (end : ℕ) : Type 0 where
  pub some : 0 < end
  pub within : end ≤ length heads

-- the tree that ends here has this head and these parts
pub record IsMade (heads : List CondHead) (end : ℕ) (head : CondHead) (parts : Parts) : Type 0 where
  pub tree : tree_at heads end ≡ node head (map (tree_at heads) (ends_of parts))
  pub ends : AllByRecursion (IsEnd heads) (ends_of parts)
