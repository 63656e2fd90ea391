-- The choices that are tried round one: each operand of a form has one of its candidates, and at
-- most two are changed at once. A fault of one operand needs one change to be seen, a fault in how
-- two go together needs two, and registers that are shared show a missing earlyclobber mark (GCC
-- Internals, "Constraint Modifier Characters").
use Rattle.std.specs.Prelude.{ℕ, ◌==◌, List, [], ◌∷◌, ◌++◌, if◌then◌else◌, flat_map, length, take, slice_get}
use Rattle.std.specs.List.{range_with_len}
use Rattle.std.specs.Option.{option_map_or}
use Rattle.lint_choices.specs.declared.change.Picked.{Picked}
use Rattle.lint_choices.specs.declared.change.Change.{Change}
use Rattle.lint_choices.specs.declared.change.Change.TheVariants.{Itself, One, Shared, Every, Two}

-- as many are looked at for an alternative at most
abbrev pub most_looked : ℕ
most_looked = 2000

-- how many candidates the operand with a number has
abbrev pub count_at : List Picked → ℕ → ℕ
count_at picked operand = option_map_or (λ (p : Picked). p.count) (slice_get picked operand) 0

-- which of them it has
abbrev pub own_at : List Picked → ℕ → ℕ
own_at picked operand = option_map_or (λ (p : Picked). p.own) (slice_get picked operand) 0

-- what is made of each number below another, in order
abbrev pub each_below : ℕ → (ℕ → List Change) → List Change
each_below end made = flat_map made (range_with_len 0 end)

-- ---- one operand with another candidate

abbrev pub one_by : List Picked → ℕ → ℕ → List Change
one_by picked operand candidate =
    if candidate == own_at picked operand then [] else One operand candidate ∷ []

abbrev pub one_at : List Picked → ℕ → List Change
one_at picked operand = each_below (count_at picked operand) (one_by picked operand)

abbrev pub ones : List Picked → List Change
ones picked = each_below (length picked) (one_at picked)

-- ---- two operands with one register

abbrev pub shared_by : ℕ → ℕ → List Change
shared_by second first = Shared first second ∷ []

abbrev pub shared_with : ℕ → List Change
shared_with second = each_below second (shared_by second)

abbrev pub shares : ℕ → List Change
shares operands = each_below operands shared_with

-- ---- two operands with other candidates

abbrev pub two_by : List Picked → ℕ → ℕ → ℕ → ℕ → List Change
two_by picked second first candidate other =
    if other == own_at picked second then [] else Two first candidate second other ∷ []

abbrev pub two_at : List Picked → ℕ → ℕ → ℕ → List Change
two_at picked second first candidate =
    if candidate == own_at picked first then [] else each_below (count_at picked second) (two_by picked second first candidate)

abbrev pub two_for : List Picked → ℕ → ℕ → List Change
two_for picked second first = each_below (count_at picked first) (two_at picked second first)

abbrev pub two_with : List Picked → ℕ → List Change
two_with picked second = each_below second (two_for picked second)

abbrev pub twos : List Picked → List Change
twos picked = each_below (length picked) (two_with picked)

-- ---- the choices

-- the choices round one, in the order in which they are tried
abbrev pub changes_round : List Picked → List Change
changes_round picked = take most_looked (Itself ∷ (ones picked ++ (shares (length picked) ++ (Every ∷ twos picked))))

-- the choices among which a first is looked for, where none is known: registers are apart
abbrev pub changes_searched : List Picked → List Change
changes_searched picked = take most_looked (Itself ∷ (ones picked ++ twos picked))
