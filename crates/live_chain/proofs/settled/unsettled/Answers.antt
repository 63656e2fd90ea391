use Rattle.std.proofs.Common.{ℕ, ◌&&◌, Bool, not, take, get_or, sym, ap, ◌∙◌, arith}
use Rattle.std.proofs.lemmas.Grind.{take_at_read}
use Rattle.rtx_tree.specs.RegSet.{has_reg}
use Rattle.std.specs.Prelude.{slice_range}
use Rattle.live_chain.specs.machine.Window.{is_settled}
use Rattle.live_chain.proofs.DemandLaws.{left_out, left_in}
use Rattle.live_chain.proofs.settled.unsettled.Goals as goal
use Rattle.live_chain.proofs.settled.unsettled.Goals.{then-not-is_settled+in_ok-push, else-not-is_settled}

pub loop-reg-preserved : goal.loop-reg-preserved
loop-reg-preserved c = λ other.
    let tail = slice_range c.args.insns.now c.args.end c.args.to in
    let k = c.loop-reg.reg-index in
    let seen = take k c.args.regs.now in
    let reg = get_or c.args.regs.now k 0 in
    let named : ℕ → Bool = λ r. is_settled c.args.old.now c.args.new.now tail r in
    let more = (take_at_read c.args.regs.now k 0 (omega arith)).1 in
    elim c.if-not-is_settled.branch [
      | then-not-is_settled+in_ok-push w ↦
          ap (λ l. has_reg l other) (w.left-is ∙ w.in_ok-push.ensures.ok) ∙
          (left_in named seen c.loop-reg.left reg other (c.loop-reg.invariant other) (sym c.is_settled.ensures ∙ w.if-not-is_settled.true) ∙ ap (λ l. has_reg l other && not (named other)) (sym more))
      | else-not-is_settled w ↦
          ap (λ l. has_reg l other) w.left-is ∙
          (left_out named seen c.loop-reg.left reg other (c.loop-reg.invariant other) (sym c.is_settled.ensures ∙ w.if-not-is_settled.false) ∙ ap (λ l. has_reg l other && not (named other)) (sym more))
    ]
