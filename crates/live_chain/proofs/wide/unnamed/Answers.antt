use Rattle.std.proofs.Common.{ℕ, ◌||◌, ◌&&◌, Bool, not, take, get_or, sym, ap, ◌∙◌, arith}
use Rattle.std.proofs.lemmas.Grind.{take_at_read}
use Rattle.rtx_tree.specs.RegSet.{has_reg}
use Rattle.reg_uses.specs.Uses.{insn_uses, insn_defines}
use Rattle.live_chain.proofs.DemandLaws.{left_out, left_in}
use Rattle.live_chain.proofs.wide.unnamed.Goals as goal
use Rattle.live_chain.proofs.wide.unnamed.Goals.{then-not-is_named+in_ok-push, else-not-is_named}

pub loop-reg-preserved : goal.loop-reg-preserved
loop-reg-preserved c = λ other.
    let i = c.args.insn.now in
    let k = c.loop-reg.reg-index in
    let seen = take k c.args.regs.now in
    let reg = get_or c.args.regs.now k 0 in
    let named : ℕ → Bool = λ r. insn_uses i r || insn_defines i r in
    let more = (take_at_read c.args.regs.now k 0 (omega arith)).1 in
    elim c.if-not-is_named.branch [
      | then-not-is_named+in_ok-push w ↦
          ap (λ l. has_reg l other) (w.left-is ∙ w.in_ok-push.ensures.ok) ∙
          (left_in named seen c.loop-reg.left reg other (c.loop-reg.invariant other) (sym c.is_named.ensures ∙ w.if-not-is_named.true) ∙ ap (λ l. has_reg l other && not (named other)) (sym more))
      | else-not-is_named w ↦
          ap (λ l. has_reg l other) w.left-is ∙
          (left_out named seen c.loop-reg.left reg other (c.loop-reg.invariant other) (sym c.is_named.ensures ∙ w.if-not-is_named.false) ∙ ap (λ l. has_reg l other && not (named other)) (sym more))
    ]
