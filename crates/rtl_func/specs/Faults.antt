-- Where a function breaks which rule, and which such place is told.
use Rattle.std.specs.Prelude.{ℕ, ◌||◌, ◌&&◌, ◌==◌, nat_le, nat_lt, Bool, if◌then◌else◌, List, [], ◌∷◌, Option, Some, None}
use Rattle.rtl_func.specs.declared.fault.Fault.{Fault}

abbrev pub fault : ℕ → ℕ → Fault
fault rule uid = record { uid = uid; rule = rule }

-- the lower uid is first, and at one uid the lower rule
abbrev pub is_first : Fault → Fault → Bool
is_first a b = nat_lt a.uid b.uid || (a.uid == b.uid && nat_le a.rule b.rule)

abbrev pub first_of : Fault → Fault → Fault
first_of a b = if is_first a b then a else b

abbrev pub earlier : Option Fault → Option Fault → Option Fault
earlier None b = b
earlier (Some a) None = Some a
earlier (Some a) (Some b) = Some (first_of a b)

-- the first of some faults, if there is any
abbrev pub first_fault : List Fault → Option Fault
first_fault [] = None
first_fault (a ∷ faults) = earlier (Some a) (first_fault faults)
