-- The homes of a function's pseudo registers: GCC Internals, "RTL passes" (the integrated register
-- allocator).
use Rattle.std.specs.Prelude.{◌≡◌, ℕ, ◌<◌, ◌⊎◌, Bool, List, map, Some, slice_get}
use Rattle.std.specs.List.{list_any}
use Rattle.std.specs.List.Sorted.{IsStrictlyIncreasing}
use Rattle.rtx_tree.specs.declared.function.Function.{Function}
use Rattle.rtx_tree.specs.RegSet.{has_reg}
use Rattle.rtx_tree.specs.Registers.{pseudo}
use Rattle.rtx_tree.specs.Tree.{mentions_reg}
use Rattle.rv_regs.specs.Registers.{allocation_order}
use Rattle.reg_conflicts.specs.Conflicts.{Conflict}
use Rattle.assign.specs.declared.home.Home.TheVariants.{Hard, Slot}
use Rattle.assign.specs.declared.home.HomeOf.{HomeOf}

-- the pseudo of this number stands in an instruction
abbrev pub names : Function → ℕ → Bool
names f k = list_any (λ i. mentions_reg (pseudo k) i.pattern) f.insns

-- the pseudos that have a home, by their numbers from 0
abbrev pub pseudos : List HomeOf → List ℕ
pseudos homes = map (λ x. x.pseudo) homes

-- the register that has the home
abbrev pub register : HomeOf → ℕ
register x = pseudo x.pseudo

-- ---- valid: no pseudo conflicts with its register, and no two that share a register conflict

pub record IsValid (f : Function) (homes : List HomeOf) : Type 0 where
  pub own : (k : ℕ) (x : HomeOf) (hard : ℕ) → slice_get homes k ≡ Some x → x.home ≡ Hard hard →
      Conflict f (register x) hard → ⊥
  pub shared : (j k : ℕ) (x y : HomeOf) (hard : ℕ) → j < k → slice_get homes j ≡ Some x →
      slice_get homes k ≡ Some y → x.home ≡ Hard hard → y.home ≡ Hard hard →
      Conflict f (register y) (register x) → ⊥

-- the pseudo at k can't have a hard register: it conflicts with it, or with an earlier holder of it
abbrev pub IsTaken : Function → List HomeOf → ℕ → HomeOf → ℕ → Type 0
IsTaken f homes k x hard =
    Conflict f (register x) hard ⊎ ((j : ℕ) × (y : HomeOf) × (j < k) × (slice_get homes j ≡ Some y) × (y.home ≡ Hard hard) × Conflict f (register x) (register y))

-- ---- maximal: a pseudo in a slot can't have any register of the order

abbrev pub IsMaximal : Function → List HomeOf → Type 0
IsMaximal f homes =
    (k i : ℕ) (x : HomeOf) (hard : ℕ) → slice_get homes k ≡ Some x → x.home ≡ Slot → slice_get allocation_order i ≡ Some hard → IsTaken f homes k x hard

-- ---- first: the register of a pseudo stands in the order, and it can't have any that stands before

abbrev pub IsFirst : Function → List HomeOf → Type 0
IsFirst f homes =
    (k : ℕ) (x : HomeOf) (hard : ℕ) → slice_get homes k ≡ Some x → x.home ≡ Hard hard → (i : ℕ) × (slice_get allocation_order i ≡ Some hard) × ((j before : ℕ) → j < i → slice_get allocation_order j ≡ Some before → IsTaken f homes k x before)

-- ---- a home for each pseudo that stands in the function, in increasing number

pub record AreHomes (f : Function) (homes : List HomeOf) : Type 0 where
  pub ordered : IsStrictlyIncreasing (pseudos homes)
  pub named : (k : ℕ) → has_reg (pseudos homes) k ≡ names f k
  pub valid : IsValid f homes
  pub maximal : IsMaximal f homes
  pub first : IsFirst f homes
