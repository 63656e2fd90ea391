use Rattle.std.proofs.Common.{◌≡◌, map, take}
use Rattle.std.specs.Prelude.{filter}
use Rattle.peep2.specs.Scratch.{is_free}
use Rattle.peep2.proofs.scratch.free_among.Given as goal

abbrev pub invariant-loop-reg : goal.invariant-loop-reg
invariant-loop-reg l = l.regs ≡ filter (is_free l.dead (map (λ i. i.pattern) l.insns)) (take l.reg-index l.order)
