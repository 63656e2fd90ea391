-- Laws of operand lists.
use Rattle.std.proofs.Common.{◌≡◌, ◌≢◌, ◌<◌, ℕ, zero, suc, List, [], ◌∷◌, Option, Some, None, Ordering, Less, Equal, Greater, refl, sym, ap, cond, ◌∙◌, arith}
use Rattle.std.specs.Ordering.{MatchOrdering, match_ordering, is_eq, nat_cmp}
use Rattle.std.specs.BTreeMap.{insert_entry, is_at}
use Rattle.std.specs.Map.{lookup}
use Rattle.std.proofs.lemmas.Cmp.{ranked}
use Rattle.rtx_tree.specs.declared.tree.Rtx.{Rtx}
use Rattle.rtx_tree.specs.Operands.{operand_at, put_at}
use Rattle.rtx_tree.specs.machine.Placed.{placed}

-- what was put is read
pub read_placed : (os : List (Option Rtx)) (k : ℕ) (x : Rtx) → operand_at (put_at os k x) k ≡ Some x
read_placed [] zero x = refl
read_placed [] (suc k) x = read_placed [] k x
read_placed (o ∷ os) zero x = refl
read_placed (o ∷ os) (suc k) x = read_placed os k x

-- what was not put is read as before
pub read_other : (os : List (Option Rtx)) (k : ℕ) (x : Rtx) (j : ℕ) → j ≢ k → operand_at (put_at os k x) j ≡ operand_at os j
read_other [] zero x zero other = absurd (other refl)
read_other [] zero x (suc j) other = refl
read_other [] (suc k) x zero other = refl
read_other [] (suc k) x (suc j) other = read_other [] k x j (λ same. other (ap suc same))
read_other (o ∷ os) zero x zero other = absurd (other refl)
read_other (o ∷ os) zero x (suc j) other = refl
read_other (o ∷ os) (suc k) x zero other = refl
read_other (o ∷ os) (suc k) x (suc j) other = read_other os k x j (λ same. other (ap suc same))

-- ---- operands as they are kept

-- one put over another with its number
again : (os : List (Option Rtx)) (k : ℕ) (x y : Rtx) → put_at (put_at os k y) k x ≡ put_at os k x
again [] zero x y = refl
again [] (suc k) x y = ap (λ (l : List (Option Rtx)). None ∷ l) (again [] k x y)
again (o ∷ os) zero x y = refl
again (o ∷ os) (suc k) x y = ap (λ (l : List (Option Rtx)). o ∷ l) (again os k x y)

-- two with other numbers, in either order
swap : (os : List (Option Rtx)) (m n : ℕ) (x y : Rtx) → (n ≡ m → ⊥) → put_at (put_at os m x) n y ≡ put_at (put_at os n y) m x
swap os zero zero x y other = absurd (other refl)
swap [] zero (suc n) x y other = refl
swap [] (suc m) zero x y other = refl
swap [] (suc m) (suc n) x y other = ap (λ (l : List (Option Rtx)). None ∷ l) (swap [] m n x y (λ same. other (ap suc same)))
swap (o ∷ os) zero (suc n) x y other = refl
swap (o ∷ os) (suc m) zero x y other = refl
swap (o ∷ os) (suc m) (suc n) x y other = ap (λ (l : List (Option Rtx)). o ∷ l) (swap os m n x y (λ same. other (ap suc same)))

-- what is found by its number is the operand
pub found : (os : List (ℕ × Rtx)) (k : ℕ) → lookup (is_at (nat_cmp k)) os ≡ operand_at (placed os) k
found [] k = refl
found (o ∷ os) k = by_order (found os k) (nat_cmp k o.0) (ranked k o.0 (nat_cmp k o.0) refl)
  where
    other : k ≢ o.0 → lookup (is_at (nat_cmp k)) os ≡ operand_at (placed os) k → lookup (is_at (nat_cmp k)) os ≡ operand_at (put_at (placed os) o.0 o.1) k
    other apart rest = rest ∙ sym (read_other (placed os) o.0 o.1 k apart)

    by_order : lookup (is_at (nat_cmp k)) os ≡ operand_at (placed os) k → (r : Ordering) → MatchOrdering r (k < o.0) (k ≡ o.0) (o.0 < k) → cond (is_eq r) (Some o.1) (lookup (is_at (nat_cmp k)) os) ≡ operand_at (put_at (placed os) o.0 o.1) k
    by_order rest Less below = other (λ same. omega (arith, same, below)) rest
    by_order rest Equal same = sym (ap (operand_at (put_at (placed os) o.0 o.1)) same ∙ read_placed (placed os) o.0 o.1)
    by_order rest Greater above = other (λ same. omega (arith, same, above)) rest

-- a tree that is put among those that are kept is put among the operands
inserted : (os : List (ℕ × Rtx)) (k : ℕ) (x : Rtx) → placed (insert_entry nat_cmp os k x) ≡ put_at (placed os) k x
inserted [] k x = refl
inserted (o ∷ os) k x = by_order (inserted os k x) (nat_cmp k o.0) (ranked k o.0 (nat_cmp k o.0) refl)
  where
    by_order : placed (insert_entry nat_cmp os k x) ≡ put_at (placed os) k x → (r : Ordering) → MatchOrdering r (k < o.0) (k ≡ o.0) (o.0 < k) → placed (match_ordering r ((k, x) ∷ o ∷ os) ((o.0, x) ∷ os) (o ∷ insert_entry nat_cmp os k x)) ≡ put_at (put_at (placed os) o.0 o.1) k x
    by_order rest Less below = refl
    by_order rest Equal same = sym (ap (λ (m : ℕ). put_at (put_at (placed os) o.0 o.1) m x) same ∙ again (placed os) o.0 x o.1)
    by_order rest Greater above = ap (λ (l : List (Option Rtx)). put_at l o.0 o.1) rest ∙ swap (placed os) k o.0 x o.1 (λ same. omega (arith, same, above))

pub is_put : (before after : List (ℕ × Rtx)) (old : List (Option Rtx)) (k : ℕ) (x : Rtx) → after ≡ insert_entry nat_cmp before k x → placed before ≡ old → placed after ≡ put_at old k x
is_put before after old k x is seen = ap placed is ∙ inserted before k x ∙ ap (λ (l : List (Option Rtx)). put_at l k x) seen
