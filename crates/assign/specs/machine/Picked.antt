-- The homes that are picked by a test of conflict.
use Rattle.std.specs.Prelude.{◌≡◌, ℕ, ◌<◌, ◌⊎◌, Bool, true, false, ◌==◌, ◌||◌, ◌&&◌, not, List, Option, Some, None, slice_get, take}
use Rattle.std.specs.List.{list_any, find}
use Rattle.reg_rows.specs.Table.{has_at, IsTable}
use Rattle.reg_conflicts.specs.machine.Sparse.{AreSparse}
use Rattle.assign.specs.declared.home.Home.{Home}
use Rattle.assign.specs.declared.home.Home.TheVariants.{Hard, Slot}
use Rattle.assign.specs.declared.home.HomeOf.{HomeOf}
use Rattle.assign.specs.Homes.{register}

abbrev pub is_hard : Home → ℕ → Bool
is_hard (Hard reg) hard = reg == hard
is_hard Slot hard = false

-- the register conflicts with this holder of a hard register
abbrev pub clashes : (ℕ → ℕ → Bool) → ℕ → ℕ → HomeOf → Bool
clashes c reg hard x = is_hard x.home hard && c reg (register x)

-- the register conflicts neither with the hard register nor with a holder of it
abbrev pub is_free : (ℕ → ℕ → Bool) → List HomeOf → ℕ → ℕ → Bool
is_free c held reg hard = not (c reg hard) && not (list_any (clashes c reg hard) held)

abbrev pub home_from : Option ℕ → Home
home_from None = Slot
home_from (Some hard) = Hard hard

-- each pseudo has the first register of the order that is free beside the earlier ones, else a slot
abbrev pub IsPicked : (ℕ → ℕ → Bool) → List ℕ → List HomeOf → Type 0
IsPicked c order homes =
    (k : ℕ) (x : HomeOf) → slice_get homes k ≡ Some x → x.home ≡ home_from (find (is_free c (take k homes) (register x)) order)

-- a register stands in the row of another
abbrev pub beside : List (List ℕ) → ℕ → ℕ → Bool
beside rows reg other = has_at rows other reg

-- rows of one width, of which the first may lack words
pub record AreAlike (rows others : List (List ℕ)) : Type 0 where
  pub width : ℕ
  pub one : AreSparse width rows
  pub other : IsTable width others

-- each hard register is blocked for the registers of its own row, and for those of its holders'
-- rows
abbrev pub AreBlocked : List (List ℕ) → List HomeOf → List (List ℕ) → Type 0
AreBlocked rows homes blocked =
    (hard reg : ℕ) → hard < 64 → has_at blocked hard reg ≡ (beside rows reg hard || list_any (clashes (beside rows) reg hard) homes)

-- the pseudo at k can't have a hard register
abbrev pub IsRefused : (ℕ → ℕ → Bool) → List HomeOf → ℕ → HomeOf → ℕ → Type 0
IsRefused c homes k x hard =
    (c (register x) hard ≡ true) ⊎ ((j : ℕ) × (y : HomeOf) × (j < k) × (slice_get homes j ≡ Some y) × (y.home ≡ Hard hard) × (c (register x) (register y) ≡ true))
