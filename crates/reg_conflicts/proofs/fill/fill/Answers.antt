use Rattle.std.proofs.Common.{◌≡◌, ℕ, Some, List, refl, subst, ◌∙◌, arith}
use Rattle.std.specs.Prelude.{slice_get}
use Rattle.std.proofs.lemmas.Option.{slice_get_read}
use Rattle.rtx_tree.specs.declared.function.Insn.{Insn}
use Rattle.reg_conflicts.specs.machine.Sparse.{AreSparse}
use Rattle.reg_conflicts.proofs.FillLaws.{AreFound-insn, AreConflicts-found}
use Rattle.reg_conflicts.proofs.fill.fill.Goals as goal

pub loop-at-preserved : goal.loop-at-preserved
loop-at-preserved c =
    let f = c.args.f.now in
    let inv = c.loop-at.invariant in
    let at = c.loop-at.at in
    let insn = c.index-insns-at.result in
    let read : slice_get c.as_slice-insns.result.now at ≡ Some insn = slice_get_read c.as_slice-insns.result.now _ at insn refl (omega arith) c.index-insns-at.is in
    let here : slice_get f.insns at ≡ Some insn = subst (λ (insns : List Insn). slice_get insns at ≡ Some insn) c.as_slice-insns.ensures.value read in
    record {
      width = c.in_ok-add_insn.ensures.width ∙ inv.width;
      sparse = subst (λ (w : ℕ). AreSparse w c.add_insn.new.rows) inv.width c.in_ok-add_insn.ensures.sparse;
      found = AreFound-insn f c.args.live.now at insn c.loop-at.rows c.add_insn.new.rows c.requires.exact here c.in_ok-add_insn.ensures.each inv.found;
    }

pub returns-clause-conflicts : goal.returns-clause-conflicts
returns-clause-conflicts c = AreConflicts-found c.args.f.now c.loop-at.at c.loop-at.rows (omega (arith, c.as_slice-insns.ensures.len)) c.loop-at.invariant.found
