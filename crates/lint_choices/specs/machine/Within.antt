-- A list that is filled up to a bound.
use Rattle.std.specs.Prelude.{◌-◌, List, ◌++◌, length, take}
use Rattle.lint_choices.specs.declared.change.Change.{Change}
use Rattle.lint_choices.specs.Changes.{most_looked}

-- some choices with others behind them, as far as they have room
abbrev pub filled : List Change → List Change → List Change
filled front more = front ++ take (most_looked - length front) more
