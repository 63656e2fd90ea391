use Rattle.std.proofs.Common.{◌≡◌, ℕ, ◌*◌, ◌<◌, ◌++◌, length, take, drop, sym, subst, ◌∙◌, arith}
use Rattle.std.proofs.lemmas.List.{take-append-le, take_all}
use Rattle.reg_rows.specs.Table.{IsTable}
use Rattle.reg_conflicts.specs.machine.Sparse.{AreSparse}
use Rattle.reg_conflicts.proofs.fill.conflict_rows.Goals as goal

pub overflow_mul-width : goal.overflow_mul-width
overflow_mul-width c =
    let is = c.width_of_rows-width.ensures c.requires.room.width c.requires.room.table (omega (arith, c.requires.live.long)) in
    omega (arith, is, c.requires.room.table.small)

pub fill-requires-clause-small : goal.fill-requires-clause-small
fill-requires-clause-small c =
    let is = c.width_of_rows-width.ensures c.requires.room.width c.requires.room.table (omega (arith, c.requires.live.long)) in
    omega (arith, is, c.in_ok-set.ensures.width, c.requires.room.table.small)

pub fill-requires-clause-live : goal.fill-requires-clause-live
fill-requires-clause-live c =
    let is = c.width_of_rows-width.ensures c.requires.room.width c.requires.room.table (omega (arith, c.requires.live.long)) in
    subst (λ (w : ℕ). IsTable w c.args.live.now) (sym (c.in_ok-set.ensures.width ∙ is)) c.requires.room.table

pub fill-requires-clause-room : goal.fill-requires-clause-room
fill-requires-clause-room c p i reg at d =
    let is = c.width_of_rows-width.ensures c.requires.room.width c.requires.room.table (omega (arith, c.requires.live.long)) in
    let below : reg < 64 * c.requires.room.width = c.requires.room.defined p i reg at d in
    subst (λ (w : ℕ). reg < 64 * w) (sym (c.in_ok-set.ensures.width ∙ is)) below

pub fill-requires-clause-sparse : goal.fill-requires-clause-sparse
fill-requires-clause-sparse c = subst (AreSparse (length c.in_ok-set.set)) (sym c.as_mut_slice.ensures.value) (c.in_ok-rows.ensures.sparse (length c.in_ok-set.set))

pub returns-clause-sparse : goal.returns-clause-sparse
returns-clause-sparse c width table =
    let is : c.width_of_rows-width.result ≡ width = c.width_of_rows-width.ensures width table (omega (arith, c.requires.live.long)) in
    let wide : length c.in_ok-set.set ≡ width = c.in_ok-set.ensures.width ∙ is in
    let filled : AreSparse width c.fill.new.rows = subst (λ (w : ℕ). AreSparse w c.fill.new.rows) wide c.fill.ensures.sparse in
    let same : take c.in_ok-rows.rows.len (c.fill.new.rows ++ drop (length c.fill.new.rows) c.in_ok-rows.rows.items) ≡ c.fill.new.rows = take-append-le c.in_ok-rows.rows.len c.fill.new.rows _ (omega arith) ∙ take_all c.in_ok-rows.rows.len c.fill.new.rows (omega arith) in
    subst (AreSparse width) (sym same) filled
