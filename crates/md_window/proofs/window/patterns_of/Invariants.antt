use Rattle.std.proofs.Common.{◌≡◌, map, take}
use Rattle.md_window.proofs.window.patterns_of.Given as goal

abbrev pub invariant-loop-insn : goal.invariant-loop-insn
invariant-loop-insn l = map (λ p. p.now) l.patterns.items ≡ map (λ i. i.pattern) (take l.insn-index l.insns)
