-- An expression has ways.
use Rattle.dfa_ways.specs.Tokens.{tokens}
use Rattle.dfa_ways.specs.Expression.{start, behind_all, ended, ways_of}
use Rattle.law_ways.specs.Lawful.{HaveWays}
use Rattle.law_ways.proofs.JoinedWays.{led}
use Rattle.law_ways.proofs.StateWays.{start_still, all_still, end_ways}

pub have_ways : HaveWays
unfolding ways_of
have_ways units text ways e =
    let last = led ended (behind_all units start (tokens text)) ways e in
    end_ways last.value ways (all_still units (tokens text) start last.value start_still last.was) last.gives
