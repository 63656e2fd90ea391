-- What is refused because what would stand in its place is not known to do the same.
use Rattle.std.specs.Prelude.{Bool, true, false}
use Rattle.lint_refused.specs.declared.refused.Why.{Why}
use Rattle.lint_refused.specs.declared.refused.Why.TheVariants as why
use Rattle.lint_refused.specs.declared.refused.Refused.{Refused}

-- something is told as not known to do the same
abbrev pub is_unequal_as : Why → Bool
is_unequal_as why.Wrong = true
is_unequal_as _ = false

abbrev pub is_unequal : Refused → Bool
is_unequal r = is_unequal_as r.why
