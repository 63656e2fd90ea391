use Rattle.std.proofs.Common.{◌≤◌, ◌↔◌, ℕ, List, drop}
use Rattle.md_source.specs.Answers.{Agrees}
use Rattle.md_source.specs.Source.{Source}
use Rattle.lint_source.proofs.StandLaws.{Goes}
use Rattle.lint_source.proofs.part.+push_parts.Given as goal

-- so many files may still stand within each other
abbrev pub decreases-push_parts : goal.decreases-push_parts
decreases-push_parts g l = l.room

abbrev pub invariant-loop-tree : goal.invariant-loop-tree
invariant-loop-tree g l = record {
  few : l.count ≤ l.tree-index;
  goes : (source : Source) → Agrees source (g.F.Files.holds l.fn.files) → Goes source l.name l.fn.parts l.parts l.count (drop l.tree-index l.tree-items);
  same : (n bytes : List ℕ) → g.F.Files.holds l.files n bytes ↔ g.F.Files.holds l.fn.files n bytes;
}
