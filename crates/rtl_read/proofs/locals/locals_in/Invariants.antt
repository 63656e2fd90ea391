use Rattle.std.proofs.Common.{◌≡◌, drop, map, fold, max}
use Rattle.rtl_read.specs.Locals.{deepest_in, locals_in}
use Rattle.rtl_read.proofs.locals.locals_in.Given as goal

abbrev pub invariant-loop-insn : goal.invariant-loop-insn
invariant-loop-insn l = fold max l.deepest (map (λ i. deepest_in i.pattern) (drop l.insn-index l.insns)) ≡ locals_in l.insns
