use Rattle.std.proofs.Common.{◌≡◌, ℕ, ◌*◌, ◌<◌, ◌||◌, ◌&&◌, List, true, length, sym, ap, subst, ◌∙◌}
use Rattle.std.specs.Prelude.{All}
use Rattle.std.specs.List.{list_any}
use Rattle.rtx_tree.specs.RegSet.{has_reg}
use Rattle.rtx_tree.specs.declared.function.Insn.{Insn}
use Rattle.rtl_func.specs.Successors.{successors_of}
use Rattle.reg_rows.specs.Row.{has}
use Rattle.reg_rows.specs.Table.{has_at}
use Rattle.reg_uses.specs.Uses.{insn_defines}
use Rattle.reg_conflicts.specs.machine.Rows.{after_has, is_beside}
use Rattle.reg_conflicts.proofs.FillLaws.{two_places}
use Rattle.reg_conflicts.proofs.MarkLaws.{all_listed}
use Rattle.reg_conflicts.proofs.fill.add_insn.Goals as goal

pub mark-requires-clause-room : goal.mark-requires-clause-room
mark-requires-clause-room c =
    let bound = 64 * length c.collect.new.set in
    let each : (reg : ℕ) → has_reg c.in_ok-defines.defines reg ≡ true → reg < bound = λ reg h.
    subst (λ (n : ℕ). reg < 64 * n) (sym c.collect.ensures.width) (c.requires.room reg (sym (c.in_ok-defines.ensures reg) ∙ h)) in
    subst (All (λ reg. reg < bound)) (sym c.as_slice-2.ensures.value) (all_listed bound c.in_ok-defines.defines each)

pub returns-clause-each : goal.returns-clause-each
returns-clause-each c x y =
    let f = c.args.flow.now.function.now in
    let live = c.args.flow.now.live.now in
    let set = c.collect.new.set in
    let after : (reg : ℕ) → has set reg ≡ after_has f live c.args.at reg = λ reg.
    c.collect.ensures.each reg ∙ (two_places live reg c.successors_by-successors.result.first c.successors_by-successors.result.second ∙ ap (list_any (λ q. has_at live q reg)) (c.successors_by-successors.ensures.places ∙ ap (λ (insns : List Insn). successors_of insns c.args.at) c.as_slice.ensures.value)) in
    let defines : (reg : ℕ) → has_reg c.as_slice-2.result.now reg ≡ insn_defines c.args.insn.now reg = λ reg.
    ap (λ (regs : List ℕ). has_reg regs reg) c.as_slice-2.ensures.value ∙ c.in_ok-defines.ensures reg in
    let beside : (a b : ℕ) → (has set b && has_reg c.as_slice-2.result.now a) ≡ is_beside f live c.args.at c.args.insn.now a b = λ a b.
    ap (λ t. t && has_reg c.as_slice-2.result.now a) (after b) ∙ ap (λ t. after_has f live c.args.at b && t) (defines a) in
    c.in_ok-mark.ensures.each x y ∙
    (ap (λ t. has_at c.args.rows.now x y || (t || (has set x && has_reg c.as_slice-2.result.now y))) (beside x y) ∙
    ap (λ t. has_at c.args.rows.now x y || (is_beside f live c.args.at c.args.insn.now x y || t)) (beside y x))
