use Rattle.std.proofs.Common.{length, ◌≡◌, ◌≤◌, ℕ, List, ◌↔◌, ◌-◌}
use Rattle.std.specs.Vec.Iter.{into_iter_items, into_iter_len}
use Rattle.rtx_tree.specs.Limit.{most_bytes, most_within}
use Rattle.md_source.specs.Source.{Source}
use Rattle.md_source.specs.Asked.{GrewBy}
use Rattle.md_source.specs.Answers.{Agrees}
use Rattle.md_source.proofs.Comes.{ComesOn}
use Rattle.md_source.proofs.Named.{IsRead, AreOf}
use Rattle.md_source.specs.Faults.{AsksBy}
use Rattle.md_source.proofs.Faults.{Goes}
use Rattle.md_source.proofs.trees.+gather_from.Given as goal

abbrev pub decreases-gather_from : goal.decreases-gather_from
decreases-gather_from g l = most_within - l.within

abbrev pub invariant-loop-tree : goal.invariant-loop-tree
invariant-loop-tree g l = record {
  next : (goal.iterator-loop-tree g).can_next l.tree-iterator;
  ends : (goal.iterator-loop-tree g).is_finite l.tree-iterator;
  left : into_iter_len l.tree-iterator ≡ length (into_iter_items l.tree-iterator);
  bound : l.used ≤ most_bytes;
  comes : (source : Source) → Agrees source (g.F.Files.holds l.fn.files) → ComesOn source l.within l.fn.used l.name l.trees l.used (into_iter_items l.tree-iterator);
  of : (source : Source) → Agrees source (g.F.Files.holds l.fn.files) → AreOf source l.name (into_iter_items l.tree-iterator);
  asked : (source : Source) → Agrees source (g.F.Files.holds l.fn.files) → GrewBy (IsRead source l.name) (g.F.Files.asked l.fn.files) (g.F.Files.asked l.files);
  goes : (source : Source) → Agrees source (g.F.Files.holds l.fn.files) → AsksBy (Goes source l.within l.fn.used l.name l.used (into_iter_items l.tree-iterator)) (g.F.Files.asked l.fn.files) (g.F.Files.asked l.files);
  same : (n bytes : List ℕ) → g.F.Files.holds l.files n bytes ↔ g.F.Files.holds l.fn.files n bytes;
  count : g.F.Files.fault_count l.files ≡ g.F.Files.fault_count l.fn.files;
}
