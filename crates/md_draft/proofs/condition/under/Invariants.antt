use Rattle.std.proofs.Common.{◌≡◌, drop}
use Rattle.std.specs.List.{fold}
use Rattle.md_draft.specs.Conditions.{and_text, under}
use Rattle.md_draft.proofs.condition.under.Given as goal

abbrev pub invariant-loop-value : goal.invariant-loop-value
invariant-loop-value l = fold (and_text l.constants) l.cond (drop l.value-index l.values) ≡ under l.constants l.values l.text
