use Rattle.std.proofs.Common.{◌<◌, ◌^◌, ◌/◌, get_or, arith, rules}
use Rattle.std.proofs.lemmas.Nat.{or_lt}
use Rattle.reg_rows.proofs.WordLaws.{has_insert, set_fits}
use Rattle.reg_rows.proofs.words.insert.Goals as goal

pub returns-clause-each : goal.returns-clause-each
returns-clause-each c = has_insert c.args.words.now c.args.reg c.requires

pub returns-clause-fits : goal.returns-clause-fits
returns-clause-fits c =
    let words = c.args.words.now in
    let a : get_or words (c.args.reg / 64) 0 < 2 ^ 64 = search rules in
    set_fits words (c.args.reg / 64) _ (omega arith) (λ k l. search rules) (or_lt 64 _ _ a (omega arith))
