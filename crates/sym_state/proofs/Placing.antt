-- A register is put in its place by a search for the place and a change there.
use Rattle.std.proofs.Common.{◌≡◌, ℕ, suc, ◌+◌, ◌-◌, ◌<◌, ◌==◌, nat_lt, Bool, true, false, cond, List, [], ◌∷◌, Option, Some, None, slice_get, slice_set, refl, sym, ◌∙◌, ap, arith}
use Rattle.std.specs.List.{insert}
use Rattle.std.proofs.lemmas.List.{map-set}
use Rattle.term_sums.proofs.EditLaws.{map-insert}
use Rattle.term_tree.specs.Tree.{Tree}
use Rattle.sym_state.specs.State.{Changed}
use Rattle.sym_state.specs.Registers.{changed, placed, left_from}
use Rattle.sym_state.specs.machine.Places.{place_of, is_register, put_at, left_at}

choice : (b : Bool) (c : Changed) (xs ys : List Changed) → cond b (c ∷ xs) (c ∷ ys) ≡ c ∷ cond b xs ys
choice true c xs ys = refl
choice false c xs ys = refl

pub placed-put : (regs : List Changed) (reg : ℕ) (value : Option Tree) → put_at regs (place_of regs reg) reg value ≡ placed regs reg value
placed-put [] reg value = refl
placed-put (c ∷ regs) reg value = go (nat_lt c.reg reg) (placed-put regs reg value)
  where
    go : (below : Bool) → put_at regs (place_of regs reg) reg value ≡ placed regs reg value →
        put_at (c ∷ regs) (cond below (suc (place_of regs reg)) 0) reg value ≡
        cond below (c ∷ placed regs reg value) (cond (c.reg == reg) (changed reg value ∷ regs) (changed reg value ∷ c ∷ regs))
    go true ih = choice (is_register (slice_get regs (place_of regs reg)) reg) c (slice_set regs (place_of regs reg) (changed reg value)) (insert regs (place_of regs reg) (changed reg value)) ∙ ap (λ l. c ∷ l) ih
    go false ih = refl

-- a change of a list, seen through a view of its elements
pub ruleset changes_seen = (map-set, map-insert)

pub ruleset puts = (placed-put)

-- one register more is left
pub left_step : (reg : ℕ) (regs : List Changed) → reg < 32 → left_from (32 - reg) reg regs ≡ left_from (32 - (reg + 1)) (reg + 1) (left_at reg regs)
left_step reg regs less =
    let more : 32 - reg ≡ suc (32 - (reg + 1)) = omega arith in
    ap (λ n. left_from n reg regs) more

pub ruleset leaves = (left_step)
