use Rattle.std.proofs.Common.{◌≡◌, ℕ, ◌<◌, ◌^◌, List, sym, ap, subst, ◌∙◌, arith}
use Rattle.std.specs.Prelude.{All}
use Rattle.std.specs.List.Sorted.{IsStrictlyIncreasing}
use Rattle.rtx_tree.specs.declared.function.Insn.{Insn}
use Rattle.rtx_tree.specs.RegSet.{has_reg}
use Rattle.rtx_tree.specs.Registers.{pseudo}
use Rattle.rv_regs.specs.Registers.{allocation_order}
use Rattle.reg_conflicts.specs.machine.Sparse.{AreSparse}
use Rattle.assign.specs.Homes.{pseudos}
use Rattle.assign.specs.machine.Named.{stands_in}
use Rattle.assign.specs.machine.Picked.{beside, IsPicked}
use Rattle.assign.proofs.HomeLaws.{AreHomes-picked}
use Rattle.assign.proofs.NamedLaws.{stands_in-pseudo}
use Rattle.assign.proofs.OneLaws.{only}
use Rattle.assign.proofs.assigned.assign.Goals as goal

pub pick_in_order-requires-clause-small : goal.pick_in_order-requires-clause-small
pick_in_order-requires-clause-small c =
    let room = c.requires.room in
    let is = c.width_of_rows-width.ensures room.width room.table (omega (arith, c.requires.live.long)) in
    omega (arith, is, room.table.small)

pub pick_in_order-requires-clause-sparse : goal.pick_in_order-requires-clause-sparse
pick_in_order-requires-clause-sparse c =
    let room = c.requires.room in
    let is = c.width_of_rows-width.ensures room.width room.table (omega (arith, c.requires.live.long)) in
    let sparse = subst (AreSparse room.width) (sym c.as_slice-2.ensures.value) (c.in_ok-rows.ensures.sparse room.width room.table) in
    subst (λ (w : ℕ). AreSparse w c.as_slice-2.result.now) (sym is) sparse

pub pick_in_order-requires-clause-pseudos : goal.pick_in_order-requires-clause-pseudos
pick_in_order-requires-clause-pseudos c =
    subst (All (λ k. pseudo k < 2 ^ 32)) (sym c.as_slice-3.ensures.value) (λ k d l. omega (arith, c.in_ok-pseudos.ensures.small k d l, c.in_ok-named.ensures.small))

pub returns : goal.returns
returns c =
    let f = c.args.f.now in
    let named = c.in_ok-named.named in
    let homes = c.in_ok-homes.homes in
    let rows = c.in_ok-rows.rows.items in
    let same : pseudos homes ≡ c.in_ok-pseudos.pseudos = c.in_ok-homes.ensures.pseudos ∙ c.as_slice-3.ensures.value in
    let are =
    AreHomes-picked f rows c.in_ok-rows.ensures.conflicts homes
    (subst IsStrictlyIncreasing (sym same) c.in_ok-pseudos.ensures.ordered)
    (λ k. ap (λ (ks : List ℕ). has_reg ks k) same ∙ (c.in_ok-pseudos.ensures.each k ∙ (c.in_ok-named.ensures.each (pseudo k) ∙ (ap (λ (insns : List Insn). stands_in insns (pseudo k)) c.as_slice.ensures.value ∙ stands_in-pseudo f.insns k))))
    (subst (λ (rs : List (List ℕ)). IsPicked (beside rs) allocation_order homes) c.as_slice-2.ensures.value c.in_ok-homes.ensures.picked) in
    record { homes = are; one = λ other is. only f other homes is are }
