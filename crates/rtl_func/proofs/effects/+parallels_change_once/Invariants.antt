use Rattle.std.proofs.Common.{◌≡◌, drop}
use Rattle.std.specs.List.{list_all}
use Rattle.rtl_func.specs.Effects.{parallels_change_once}
use Rattle.rtl_func.proofs.effects.+parallels_change_once.Given as goal

abbrev pub invariant-loop-kid : goal.invariant-loop-kid
invariant-loop-kid l = list_all parallels_change_once (drop l.kid-index l.kid-items) ≡ parallels_change_once l.pattern
