use Rattle.std.proofs.Common.{◌≤◌, length, ap, sym, ◌∙◌, arith}
use Rattle.std.proofs.lemmas.Option.{slice_get_past}
use Rattle.reg_rows.specs.Row.{has}
use Rattle.reg_rows.specs.Table.{at_row}
use Rattle.live_rows.specs.machine.Rows.{at_place}
use Rattle.live_chain.proofs.BehindLaws.{has_none}
use Rattle.live_chain.proofs.behind.copy_at.Goals as goal

pub returns-in_default-clause-row : goal.returns-in_default-clause-row
returns-in_default-clause-row c reg =
    ap (λ l. has l reg) c.empty.ensures ∙
    (has_none reg ∙ sym (ap (λ p. at_place p c.args.rows.now reg) c.in_default.is))

pub returns-else-place-len-clause-row : goal.returns-else-place-len-clause-row
returns-else-place-len-clause-row c reg =
    let past : length c.args.rows.now ≤ c.in-Some.place = omega (arith, c.len.ensures, c.if-place-len.false) in
    ap (λ l. has l reg) c.empty-else-place-len.ensures ∙
    (has_none reg ∙
    (ap (λ o. at_row o reg) (sym (slice_get_past c.args.rows.now c.in-Some.place past)) ∙
    sym (ap (λ p. at_place p c.args.rows.now reg) c.in-Some.is)))
