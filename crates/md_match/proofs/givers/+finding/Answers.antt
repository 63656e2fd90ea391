use Rattle.std.proofs.Common.{rules, sym}
use Rattle.md_match.proofs.GiverLaws.{among_found}
use Rattle.md_match.proofs.givers.+finding.Goals as goal

pub giver_among-returns-in-Some : goal.giver_among-returns-in-Some
giver_among-returns-in-Some t c =
    among_found c.args.patterns.now c.args.number c.loop-pattern.pattern-index c.pattern-item.result c.in-Some.found.now _ (search rules) c.pattern-item.is (sym c.in-Some.ensures) c.loop-pattern.invariant
