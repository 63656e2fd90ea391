use Rattle.std.proofs.Common.{◌≤◌, ◌+◌, ◌-◌, [], ◌∷◌, length, take}
use Rattle.md_recog.specs.Recog.{NoneBetween}
use Rattle.recog_tree.proofs.Found.{count}
use Rattle.recog_tree.proofs.search.recog.Given as goal

abbrev pub invariant-loop-form : goal.invariant-loop-form
invariant-loop-form g l = record {
  none : NoneBetween (g.P.Preds.accepts l.matching.preds.now) l.matching.facts.now l.matching.half (l.insn ∷ []) l.forms l.from l.place;
  behind : l.from ≤ l.place;
  tries : l.steps ≤ l.fn.steps + count l.matching.half l.insn (take l.place l.forms);
}

abbrev pub decreases-loop-form : goal.decreases-loop-form
decreases-loop-form g l = length l.forms - l.place
