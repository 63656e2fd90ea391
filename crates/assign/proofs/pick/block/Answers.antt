use Rattle.std.proofs.Common.{◌≡◌, Some, length, refl, ap, ◌∙◌, arith}
use Rattle.std.specs.Prelude.{slice_get}
use Rattle.std.proofs.lemmas.Option.{slice_get_read}
use Rattle.reg_rows.specs.Table.{at_row}
use Rattle.reg_conflicts.proofs.SparseLaws.{has_bare}
use Rattle.assign.proofs.PickLaws.{none_blocked}
use Rattle.assign.proofs.pick.block.Goals as goal

pub returns-then-width-eq0-clause-each : goal.returns-then-width-eq0-clause-each
returns-then-width-eq0-clause-each c x y =
    let here : slice_get c.args.rows.now c.args.reg ≡ Some c.in-Some.row.now = slice_get_read c.args.rows.now _ c.args.reg c.in-Some.row.now refl c.in-Some.ensures.lookup.3.0 (c.in-Some.ensures.lookup.3.1 c.in-Some.row.now) in
    let bare : length c.in-Some.row.now ≡ 0 = omega (arith, c.width.ensures, c.if-width-eq0.true) in
    none_blocked _ _ _ (ap (λ o. at_row o y) here ∙ has_bare c.in-Some.row.now y bare)
