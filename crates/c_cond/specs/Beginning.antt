-- Where bytes stop being a text: the longest prefix of them that begins one.
use Rattle.std.specs.Prelude.{ℕ, ◌<◌, ◌≤◌, List, ◌++◌, All, length, take}
use Rattle.c_cond.specs.declared.tree.Tree.{Tree}

-- Some text begins with these bytes, where these are the texts with their trees.
pub record Begins (IsText : List ℕ → Tree → Type 0) (bytes : List ℕ) : Type 0 where
  pub more : List ℕ
  pub are_bytes : All (λ b. b < 256) more
  pub tree : Tree
  pub text : IsText (bytes ++ more) tree

-- The offset ends the longest prefix of the bytes that begins a text, and the bytes themselves are
-- none.
pub record IsOutside (IsText : List ℕ → Tree → Type 0) (bytes : List ℕ) (offset : ℕ) : Type 0 where
  pub in_text : offset ≤ length bytes
  pub begins : Begins IsText (take offset bytes)
  pub longest : (j : ℕ) → offset < j → j ≤ length bytes → Begins IsText (take j bytes) → ⊥
  pub no_text : (tree : Tree) → IsText bytes tree → ⊥
