use Rattle.std.proofs.Common.{◌≡◌, length, Some, refl, sym, ap, ◌∙◌, arith}
use Rattle.std.specs.Prelude.{slice_get}
use Rattle.std.proofs.lemmas.Option.{slice_get_read, same_Some}
use Rattle.live_rows.proofs.SetLaws.{slice_get-set_same}
use Rattle.reg_conflicts.proofs.SparseLaws.{has_at-made}
use Rattle.reg_conflicts.proofs.mark.make_row.Goals as goal

pub returns-in_ok-row-clause-same : goal.returns-in_ok-row-clause-same
returns-in_ok-row-clause-same c x y =
    let rows = c.args.rows.now in
    let at = c.args.at in
    let old = c.index-rows-at.result in
    let here : slice_get rows at ≡ Some old = slice_get_read rows _ at old refl (omega arith) c.index-rows-at.is in
    let few = c.requires.sparse.fewer at old (omega arith) in
    let bare : length old ≡ 0 = ap length c.index-rows-at.is ∙ few (omega (arith, ap length c.index-rows-at.is, c.width.ensures, c.if-width.true)) in
    has_at-made rows at old c.in_ok-row.row (omega arith) here bare c.in_ok-row.ensures.none x y

pub returns-in_ok-row-clause-wide : goal.returns-in_ok-row-clause-wide
returns-in_ok-row-clause-wide c row at =
    let same = same_Some c.in_ok-row.row row (sym (slice_get-set_same c.args.rows.now c.args.at c.in_ok-row.row (omega arith)) ∙ at) in
    omega (arith, ap length same, c.in_ok-row.ensures.width)

pub returns-else-width-clause-wide : goal.returns-else-width-clause-wide
returns-else-width-clause-wide c row at =
    let rows = c.args.rows.now in
    let old = c.index-rows-at.result in
    let here : slice_get rows c.args.at ≡ Some old = slice_get_read rows _ c.args.at old refl (omega arith) c.index-rows-at.is in
    let same = same_Some old row (sym here ∙ at) in
    omega (arith, ap length same, ap length c.index-rows-at.is, c.width.ensures, c.if-width.false)
