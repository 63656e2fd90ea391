use Rattle.std.proofs.Common.{◌≡◌, ℕ, ◌++◌, length, min, drop, sym, arith, rules}
use Rattle.std.proofs.lemmas.Grind.{common_steps}
use Rattle.dfa_ways.specs.Ways as spec
use Rattle.dfa_ways.proofs.WayLaws.{at_once_ends}
use Rattle.dfa_ways.proofs.way.at_once.Goals as goal

pub returns : goal.returns
returns c =
    let n : ℕ = c.min-common.result in
    let is : n ≡ min (length c.args.first.now) (length c.args.second.now) = first_of (omega arith, search rules, grind (arith, common_steps)) in
    let whole = at_once_ends c.args.first.now c.args.second.now c.loop-at.both c.loop-at.at n (spec.at_once c.args.first.now c.args.second.now) is c.loop-at-test.false c.loop-at.auto.at-end c.loop-at.invariant in
    let made : c.push_all-2.new.way ≡ (c.loop-at.both ++ drop n c.args.first.now) ++ drop n c.args.second.now = first_of (rw (c.in_ok-push_all-2.ensures, c.in_ok-push_all.ensures), search rules, grind (arith, common_steps, c.in_ok-push_all-2.ensures, c.in_ok-push_all.ensures)) in
    rw made (sym whole)
