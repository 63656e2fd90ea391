use Rattle.std.proofs.Common.{◌+◌, None, sym, ap, ◌∙◌}
use Rattle.std.specs.Prelude.{slice_set}
use Rattle.rv_line.specs.declared.state.RvState.{RvState}
use Rattle.rv_line.proofs.Left.{done, used, other, whole}
use Rattle.rv_line.proofs.state.RvState.unset_used.Goals as goal
use Rattle.rv_line.proofs.state.RvState.unset_used.Goals.{then-reg_call_used, else-reg_call_used}

pub loop-reg-preserved : goal.loop-reg-preserved
loop-reg-preserved c = elim c.if-reg_call_used.branch [
  | then-reg_call_used w ↦ record {
    left = ap (λ (s : RvState). done (c.loop-reg.reg + 1) s.regs) w.self-is
        ∙ ap (λ n. done (c.loop-reg.reg + 1) (slice_set c.loop-reg.self.regs n None)) w.from.ensures
        ∙ used c.loop-reg.reg c.loop-reg.self.regs (sym c.reg_call_used.ensures ∙ w.if-reg_call_used.true) ∙ c.loop-reg.invariant.left;
    entry = ap (λ (s : RvState). s.entry_ra) w.self-is ∙ c.loop-reg.invariant.entry;
    memory = ap (λ (s : RvState). s.memory) w.self-is ∙ c.loop-reg.invariant.memory;
  }
  | else-reg_call_used w ↦ record {
    left = ap (λ (s : RvState). done (c.loop-reg.reg + 1) s.regs) w.self-is
        ∙ other c.loop-reg.reg c.loop-reg.self.regs (sym c.reg_call_used.ensures ∙ w.if-reg_call_used.false) ∙ c.loop-reg.invariant.left;
    entry = ap (λ (s : RvState). s.entry_ra) w.self-is ∙ c.loop-reg.invariant.entry;
    memory = ap (λ (s : RvState). s.memory) w.self-is ∙ c.loop-reg.invariant.memory;
  }
]

pub returns : goal.returns
returns c = whole c.loop-reg.self c.args.self.now c.loop-reg.reg c.loop-reg-test.false c.loop-reg.invariant.left c.loop-reg.invariant.entry c.loop-reg.invariant.memory
