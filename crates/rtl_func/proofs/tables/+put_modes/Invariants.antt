use Rattle.std.proofs.Common.{◌≡◌, ℕ, drop}
use Rattle.std.specs.List.{flat_map}
use Rattle.std.specs.Option.{option_or}
use Rattle.std.specs.Ordering.{nat_cmp}
use Rattle.std.specs.BTreeMap as map
use Rattle.rtl_func.specs.Modes.{first_mode, mentions_in}
use Rattle.rtl_func.proofs.tables.+put_modes.Given as goal

abbrev pub invariant-loop-kid : goal.invariant-loop-kid
invariant-loop-kid l = (reg : ℕ) → option_or (map.get nat_cmp l.modes reg) (first_mode (flat_map mentions_in (drop l.kid-index l.kid-items)) reg) ≡ option_or (map.get nat_cmp l.fn.modes reg) (first_mode (mentions_in l.x) reg)
