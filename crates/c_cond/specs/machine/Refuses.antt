-- How a refusal tells a place.
use Rattle.std.specs.Prelude.{◌≡◌, ℕ}
use Rattle.c_cond.specs.declared.parse.CondRefusal.{CondRefusal}
use Rattle.c_cond.specs.declared.parse.CondRefusal.TheVariants as refusal

-- the refusal tells this offset, or that memory ran out
abbrev pub Refuses : CondRefusal → ℕ → Type 0
Refuses (refusal.Outside offset) place = offset ≡ place
Refuses refusal.Memory place = Unit {0}
