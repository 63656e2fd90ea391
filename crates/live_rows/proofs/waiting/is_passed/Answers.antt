use Rattle.std.proofs.Common.{◌-◌, ◌/◌, ◌%◌, eqb, get_or, sym, ◌∙◌, arith}
use Rattle.std.proofs.lemmas.Bool.{and_parts, eqb-true}
use Rattle.reg_rows.proofs.WordLaws.{has_zero_word}
use Rattle.live_rows.proofs.waiting.is_passed.Goals as goal

pub returns-then-at-ge-WORD-clause-none : goal.returns-then-at-ge-WORD-clause-none
returns-then-at-ge-WORD-clause-none c is place ge less =
    let row = c.args.now.now in
    let start = c.args.at - 64 in
    let both = and_parts (eqb (start % 64) 0) (eqb (get_or row (start / 64) 0) 0) (sym c.is_passed.ensures ∙ is) in
    let first = eqb-true (start % 64) 0 both.0 in
    has_zero_word row (start / 64) place (eqb-true (get_or row (start / 64) 0) 0 both.1) (omega (arith, first, ge, less, c.if-at-ge-WORD.true))
