-- The steps of the code, for the contracts of private functions alone.
use Rattle.std.specs.Prelude.{◌≡◌, ℕ, ◌<◌, false, List, Some, length, slice_get}
use Rattle.md_desc.specs.md_forms.declared.form.Entry.{Entry}
use Rattle.lint_tried.specs.declared.instance.Instance.{Instance}
use Rattle.lint_told.specs.declared.told.Found.{Found}
use Rattle.lint_told.specs.declared.told.Found.TheVariants as found
use Rattle.lint_told.specs.declared.told.Outcome.{Outcome}
use Rattle.lint_told.specs.declared.told.Outcome.TheVariants as outcome
use Rattle.lint_told.specs.declared.told.Told.TheVariants as told
use Rattle.lint_told.specs.Told.{IsWrong, IsRight, IsElsewhere, InstancesTold}

-- what comes of the form for an instance
abbrev pub Comes : List Entry → ℕ → ℕ → Instance → Outcome → Type 0
Comes forms form alternative i outcome.Elsewhere = IsElsewhere forms form alternative i
Comes forms form alternative i outcome.Right = IsRight forms form alternative i
Comes forms form alternative i (outcome.Wrong judged) = IsWrong forms form alternative i judged

-- what is found among some instances, of which a wrong one stands at a place
abbrev pub Finds : List Entry → ℕ → ℕ → List Instance → Found → Type 0
Finds forms form alternative is found.Right = InstancesTold forms form alternative false is told.Right
Finds forms form alternative is found.Unreached = InstancesTold forms form alternative false is told.Unreached
Finds forms form alternative is (found.Wrong at judged) =
    (at < length is) × ((i : Instance) → slice_get is at ≡ Some i → InstancesTold forms form alternative false is (told.Wrong i judged))
