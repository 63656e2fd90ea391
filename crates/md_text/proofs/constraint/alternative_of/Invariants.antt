use Rattle.std.proofs.Common.{◌≡◌, ◌≤◌, drop, option_map}
use Rattle.std.specs.Prelude.{fold}
use Rattle.md_text.specs.Pieces.{pieces}
use Rattle.md_text.specs.Constraint.{sign_at, signed, alternative_of}
use Rattle.md_text.proofs.constraint.alternative_of.Given as goal

abbrev pub invariant-loop-at : goal.invariant-loop-at
invariant-loop-at l = record {
  slight : l.alternative.slight ≤ l.at;
  severe : l.alternative.severe ≤ l.at;
  value : option_map (fold signed l.alternative) (pieces (sign_at l.names) l.taken (drop l.at l.text)) ≡ alternative_of l.names l.text;
}
