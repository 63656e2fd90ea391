use Rattle.std.proofs.Common.{◌≡◌, ℕ, drop}
use Rattle.std.specs.Option.{option_or}
use Rattle.std.specs.Ordering.{nat_cmp}
use Rattle.std.specs.BTreeMap as map
use Rattle.rtl_func.specs.Modes.{first_mode, mentions}
use Rattle.rtl_func.proofs.tables.modes_of.Given as goal

abbrev pub invariant-loop-insn : goal.invariant-loop-insn
invariant-loop-insn l = (reg : ℕ) → option_or (map.get nat_cmp l.modes reg) (first_mode (mentions (drop l.insn-index l.insns)) reg) ≡ first_mode (mentions l.insns) reg
