-- Which registers slots have: each the first of those that may stand in its place and that no slot
-- before it has; shared slots have one.
use Rattle.std.specs.Prelude.{ℕ, ◌==◌, Bool, not, List, [], ◌∷◌, ◌++◌, map, find, slice_index_or, slice_set}
use Rattle.std.specs.Option.{unwrap_or}
use Rattle.std.specs.List.{list_any}
use Rattle.lint_choices.specs.declared.change.Change.{Change}
use Rattle.lint_choices.specs.declared.change.Change.TheVariants as change

-- whether no slot before has a register
abbrev pub is_free : List ℕ → ℕ → Bool
is_free given reg = not (list_any (λ other. other == reg) given)

-- the first of a slot's own that is free, or a0 where none is
abbrev pub slot_register : List ℕ → List ℕ → ℕ
slot_register given own = unwrap_or (find (is_free given) own) 10

-- the registers of slots, by those that each may have, behind those that others have
abbrev pub registers_behind : List ℕ → List (List ℕ) → List ℕ
registers_behind given [] = given
registers_behind given (own ∷ more) = registers_behind (given ++ slot_register given own ∷ []) more

abbrev pub registers_apart : List (List ℕ) → List ℕ
registers_apart owns = registers_behind [] owns

abbrev pub register_at : List ℕ → ℕ → ℕ
register_at regs slot = slice_index_or regs slot 10

abbrev pub all_same : ℕ → List ℕ → List ℕ
all_same reg regs = map (λ other. reg) regs

-- the registers of slots in a choice
abbrev pub registers_in : Change → List ℕ → List ℕ
registers_in (change.Shared first second) regs = slice_set regs second (register_at regs first)
registers_in change.Every regs = all_same (register_at regs 0) regs
registers_in _ regs = regs
