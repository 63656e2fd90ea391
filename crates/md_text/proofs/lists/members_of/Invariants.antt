use Rattle.std.proofs.Common.{◌≡◌, ◌++◌, drop, map}
use Rattle.md_text.specs.Lists.{trimmed}
use Rattle.md_text.proofs.lists.members_of.Given as goal

abbrev pub invariant-loop-part : goal.invariant-loop-part
invariant-loop-part l = l.members ++ map trimmed (drop l.part-index l.part-items) ≡ map trimmed l.part-items
