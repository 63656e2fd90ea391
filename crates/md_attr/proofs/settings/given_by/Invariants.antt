use Rattle.std.proofs.Common.{◌≡◌, drop}
use Rattle.md_attr.specs.Values as spec
use Rattle.md_attr.proofs.settings.given_by.Given as goal

abbrev pub invariant-loop-setting : goal.invariant-loop-setting
invariant-loop-setting l = spec.given_by l.name (drop l.setting-index l.settings) ≡ spec.given_by l.name l.settings
