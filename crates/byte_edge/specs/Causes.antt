-- When a call may fail, and what a failed call has taken.
use Rattle.std.specs.Prelude.{◌≡◌, ℕ, ◌+◌, ◌-◌, ◌^◌, ◌≤◌, min, List, ◌++◌, OnOk, OnErr, Result}
use Rattle.std.specs.declared.option.Option.{Option}
use Rattle.std.specs.Io.KnownBytes.{Appends}

-- one more than the count, up to 18446744073709551615, its last value
abbrev pub one_more : ℕ → ℕ
one_more count = min (count + 1) (2 ^ 64 - 1)

-- A count of faults rose in a call: it is greater than before, or it stands at
-- 18446744073709551615, its last value.
abbrev pub Rose : ℕ → ℕ → Type 0
Rose before now = one_more before ≤ now

-- The count never falls, it stays in a call that doesn't fail, and a call fails only where it rose.
pub record HasCause {T E : Type 0} (before now : ℕ) (result : Result T E) : Type 0 where
  pub later : before ≤ now
  pub stays : OnOk result (now ≡ before)
  pub failed : OnErr result (Rose before now)

-- a front of the bytes was taken, and no other byte
abbrev pub TakesFront : Option (List ℕ) → Option (List ℕ) → List ℕ → Type 0
TakesFront old new bytes =
    (front : List ℕ) × (back : List ℕ) × (bytes ≡ front ++ back) × Appends old new front
