-- What an answer of parsing says of the text.
use Rattle.std.specs.Prelude.{ℕ, List, Result, Ok, Err}
use Rattle.c_cond.specs.declared.tree.Tree.{Tree}
use Rattle.c_cond.specs.declared.parse.CondRefusal.{CondRefusal}
use Rattle.c_cond.specs.declared.parse.CondRefusal.TheVariants as refusal
use Rattle.c_cond.specs.Beginning.{IsOutside}

-- The answer is the tree, where the text has one; Outside, where it has none, with the offset that
-- ends the longest prefix of it that begins a text; that memory ran out says nothing of it.
abbrev pub Gives : (List ℕ → Tree → Type 0) → List ℕ → Result (Tree) CondRefusal → Type 0
Gives IsText bytes (Ok tree) = IsText bytes tree
Gives IsText bytes (Err (refusal.Outside offset)) = IsOutside IsText bytes offset
Gives IsText bytes (Err refusal.Memory) = Unit {0}
