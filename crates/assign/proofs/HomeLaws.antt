-- Picked homes are valid, maximal and first.
use Rattle.std.proofs.Common.{◌≡◌, ℕ, zero, suc, ◌<◌, true, ltb, List, [], ◌∷◌, refl, sym, ◌∙◌, inl, inr, arith}
use Rattle.std.specs.Prelude.{All}
use Rattle.std.specs.List.{list_all}
use Rattle.std.specs.List.Sorted.{IsStrictlyIncreasing}
use Rattle.std.proofs.lemmas.Bool.{and_parts, true≢false, ltb-true}
use Rattle.rtx_tree.specs.declared.function.Function.{Function}
use Rattle.rtx_tree.specs.RegSet.{has_reg}
use Rattle.rv_regs.specs.Registers.{allocation_order}
use Rattle.reg_conflicts.specs.Conflicts.{Conflict, AreConflicts}
use Rattle.assign.specs.declared.home.HomeOf.{HomeOf}
use Rattle.assign.specs.Homes.{register, pseudos, names, IsTaken, AreHomes}
use Rattle.assign.specs.machine.Picked.{beside, IsPicked, IsRefused}
use Rattle.assign.proofs.PickLaws.{slot_refused, hard_first, own_free, shared_free}

all_below : (xs : List ℕ) (n : ℕ) → list_all (λ y. ltb y n) xs ≡ true → All (λ x. x < n) xs
all_below [] n all k d l = absurd (omega arith)
all_below (x ∷ xs) n all zero d l = ltb-true x n (and_parts (ltb x n) (list_all (λ y. ltb y n) xs) all).0
all_below (x ∷ xs) n all (suc k) d l = all_below xs n (and_parts (ltb x n) (list_all (λ y. ltb y n) xs) all).1 k d (omega arith)

-- the allocation order has hard registers
pub order_below : All (λ hard. hard < 64) allocation_order
order_below = all_below allocation_order 64 refl

flip : (f : Function) (x y : ℕ) → Conflict f x y → Conflict f y x
flip f x y (inl d) = inr d
flip f x y (inr d) = inl d

module _ (f : Function) (rows : List (List ℕ)) (exact : AreConflicts f rows) where
  conflict_of : (x y : ℕ) → beside rows x y ≡ true → Conflict f x y
  conflict_of x y h = flip f y x (exact.sound y x h)

  test_of : (x y : ℕ) → Conflict f x y → beside rows x y ≡ true
  test_of x y conflict = exact.complete y x (flip f x y conflict)

  taken_of : (homes : List HomeOf) (k : ℕ) (x : HomeOf) (hard : ℕ) → IsRefused (beside rows) homes k x hard → IsTaken f homes k x hard
  taken_of homes k x hard (inl t) = inl (conflict_of (register x) hard t)
  taken_of homes k x hard (inr (j, y, l, at, is, t)) = inr (j, y, l, at, is, conflict_of (register x) (register y) t)

  pub AreHomes-picked : (homes : List HomeOf) → IsStrictlyIncreasing (pseudos homes) → ((k : ℕ) → has_reg (pseudos homes) k ≡ names f k) → IsPicked (beside rows) allocation_order homes → AreHomes f homes
  AreHomes-picked homes ordered named picked =
      record {
        ordered = ordered;
        named = named;
        valid = record {
          own = λ k x hard at is conflict.
              true≢false (sym (test_of (register x) hard conflict) ∙ own_free (beside rows) allocation_order homes picked k x hard at is);
          shared = λ j k x y hard l at_j at_k is_x is_y conflict.
              true≢false (sym (test_of (register y) (register x) conflict) ∙ shared_free (beside rows) allocation_order homes picked j k x y hard l at_j at_k is_x is_y);
        };
        maximal = λ k i x hard at is o. taken_of homes k x hard (slot_refused (beside rows) allocation_order homes picked k i x hard at is o);
        first = λ k x hard at is.
            (let first = hard_first (beside rows) allocation_order homes picked k x hard at is in
            (first.0, first.1, λ j before l o. taken_of homes k x before (first.2 j before l o)));
      }
