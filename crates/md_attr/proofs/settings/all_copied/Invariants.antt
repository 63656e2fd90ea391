use Rattle.std.proofs.Common.{◌≡◌, take}
use Rattle.md_attr.proofs.settings.all_copied.Given as goal

abbrev pub invariant-loop-setting : goal.invariant-loop-setting
invariant-loop-setting l = l.all ≡ take l.setting-index l.settings
