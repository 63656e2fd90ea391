use Rattle.std.proofs.Common.{◌≡◌, drop}
use Rattle.std.specs.Prelude.{flat_map}
use Rattle.std.specs.List.{find}
use Rattle.md_match.specs.Pattern.{gives_number, placeholders}
use Rattle.md_match.proofs.givers.+finding.Given as goal

abbrev pub invariant-giver_among-loop-pattern : goal.invariant-giver_among-loop-pattern
invariant-giver_among-loop-pattern l = find (gives_number l.number) (flat_map placeholders (drop l.pattern-index l.patterns)) ≡ find (gives_number l.number) (flat_map placeholders l.patterns)
