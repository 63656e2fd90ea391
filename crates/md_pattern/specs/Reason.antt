-- Why a form of a description is set aside: the profile of this project for what of GCC's machine
-- descriptions it takes.
use Rattle.std.specs.Prelude.{◌≤◌, ℕ, nat_le, Result, Ok, Err, if◌then◌else◌}
use Rattle.md_pattern.specs.declared.reason.Reason.{Reason}
use Rattle.md_pattern.specs.declared.reason.Reason.TheVariants.{Head, Parts, Code, Mode, CCode, Condition, Statements, Predicate, Constraint, Attribute, Operands, Template}

-- the numbers of the reasons
abbrev pub number_of : Reason → ℕ
number_of Head = 1
number_of Parts = 2
number_of Code = 3
number_of Mode = 4
number_of CCode = 5
number_of Condition = 6
number_of Statements = 7
number_of Predicate = 8
number_of Constraint = 9
number_of Attribute = 10
number_of Operands = 11
number_of Template = 12

-- of two reasons the one with the smaller number
abbrev pub smaller : Reason → Reason → Reason
smaller r s = if nat_le (number_of r) (number_of s) then r else s

-- two things that were read, or the smaller of the reasons why they are set aside
abbrev pub both : {A B : Type 0} → Result A Reason → Result B Reason → Result (A × B) Reason
both (Ok x) (Ok y) = Ok (x, y)
both (Ok x) (Err r) = Err r
both (Err r) (Ok y) = Err r
both (Err r) (Err s) = Err (smaller r s)

-- what is made of one thing that was read
abbrev pub judged_map : {A B : Type 0} → (A → B) → Result A Reason → Result B Reason
judged_map f (Ok x) = Ok (f x)
judged_map f (Err r) = Err r

-- what is made of two
abbrev pub judged_with : {A B C : Type 0} → (A → B → C) → Result A Reason → Result B Reason →
    Result C Reason
judged_with f a b = judged_map (λ pair. f pair.0 pair.1) (both a b)

-- what has no reason was made, and what was not has the smallest of its reasons
abbrev pub IsSmallest : {A : Type 0} → (Reason → Type 0) → Result A Reason → Type 0
IsSmallest Has (Ok x) = (r : Reason) → Has r → ⊥
IsSmallest Has (Err r) = Has r × ((s : Reason) → Has s → number_of r ≤ number_of s)
