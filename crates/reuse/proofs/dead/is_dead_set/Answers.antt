use Rattle.std.proofs.Common.{sym, ◌∙◌}
use Rattle.reuse.proofs.Found.{no_dead, not_true, not_false, other_lives}
use Rattle.reuse.proofs.dead.is_dead_set.Goals as goal

pub returns-in_default-clause-other : goal.returns-in_default-clause-other
returns-in_default-clause-other c told = no_dead c.args.chain.now c.args.place c.insn.result.now c.insn.ensures (sym c.set_of.ensures ∙ c.in_default.is)

pub returns-clause-dead : goal.returns-clause-dead
returns-clause-dead c told = record {
  insn = c.insn.result.now;
  at_place = c.insn.ensures;
  register = c.in-Some.register;
  sets = sym c.set_of.ensures ∙ c.in-Some.is;
  dead = λ lives. not_true c.in_ok-live.live told (c.in_ok-live.ensures.live.1 lives);
}

pub returns-clause-other : goal.returns-clause-other
returns-clause-other c told =
    other_lives c.args.chain.now c.args.place c.insn.result.now c.insn.ensures c.in-Some.register (sym c.set_of.ensures ∙ c.in-Some.is) (c.in_ok-live.ensures.live.0 (not_false c.in_ok-live.live told))
