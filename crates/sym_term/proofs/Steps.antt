-- One step of a load over stores, and terms that are the same.
use Rattle.std.proofs.Common.{◌≡◌, ℕ, zero, suc, ◌-◌, ◌<◌, ◌≤◌, Bool, true, false, refl, sym, ◌∙◌, ap, arith, cond, List, map, Option, option_map, slice_get}
use Rattle.std.proofs.Math.Logic.{◌↔◌}
use Rattle.std.specs.Bool.{IsTrue}
use Rattle.std.specs.Ordering.{is_eq}
use Rattle.std.specs.declared.cmp.Ordering.{Ordering}
use Rattle.std.specs.declared.cmp.Ordering.TheVariants.{Less, Equal, Greater}
use Rattle.std.proofs.lemmas.Cmp.{tied_itself}
use Rattle.std.proofs.lemmas.Option.{slice_get-map}
use Rattle.term_tree.specs.Order.{tree_cmp}
use Rattle.term_tree.proofs.OrderLaws.{tree_cmp-equal}
use Rattle.term_sums.proofs.TotalLaws.{tree_cmp_total}
use Rattle.bits64.specs.declared.Width.{Width}
use Rattle.term_tree.specs.Tree.{Tree}
use Rattle.term_cuts.specs.term_mean.Stores.{Store}
use Rattle.term_cuts.specs.term_mean.Loads.{lies_apart, source}

source-step : (stores : List Store) (w : Width) (a : Tree) (n : ℕ) → 0 < n → source stores w a n ≡ cond (lies_apart w a (slice_get stores (n - 1))) (source stores w a (n - 1)) n
source-step stores w a zero h = absurd (omega arith)
source-step stores w a (suc n) h = ap (λ k. cond (lies_apart w a (slice_get stores k)) (source stores w a k) (suc n)) (less n)
  where
    less : (n : ℕ) → n ≡ suc n - 1
    less n = omega arith

pub source-moves : (stores : List Store) (w : Width) (a : Tree) (n m : ℕ) (b : Bool) → 0 < n → b ≡ lies_apart w a (slice_get stores (n - 1)) → b ≡ true → source stores w a n ≡ m → source stores w a (n - 1) ≡ m
source-moves stores w a n m b some is apart so_far =
    ap (λ x. cond x (source stores w a (n - 1)) n) (sym apart ∙ is) ∙ sym (source-step stores w a n some) ∙ so_far

pub source-stays : (stores : List Store) (w : Width) (a : Tree) (n m : ℕ) (b : Bool) → 0 < n → b ≡ lies_apart w a (slice_get stores (n - 1)) → b ≡ false → source stores w a n ≡ m → n ≡ m
source-stays stores w a n m b some is meet so_far =
    ap (λ x. cond x (source stores w a (n - 1)) n) (sym meet ∙ is) ∙ sym (source-step stores w a n some) ∙ so_far

pub source-ends : (stores : List Store) (w : Width) (a : Tree) (n m : ℕ) → n ≤ 0 → source stores w a n ≡ m → 0 ≡ m
source-ends stores w a zero m none so_far = so_far
source-ends stores w a (suc n) m none so_far = absurd (omega arith)

-- what is found in a list, and in what is made of it item by item
pub seen : {A B : Type 0} (f : A → B) (xs : List A) (i : ℕ) (x : Option A) → x ≡ slice_get xs i → option_map f x ≡ slice_get (map f xs) i
seen f xs i x is = ap (option_map f) is ∙ sym (slice_get-map f xs i)

-- two terms that compare equal are the same
pub same-is : (t u : Tree) → IsTrue (is_eq (tree_cmp t u)) ↔ (t ≡ u)
same-is t u =
    (λ e. go (tree_cmp t u) refl e, λ e. ap (λ x. is_eq (tree_cmp t x)) (sym e) ∙ ap is_eq (tied_itself tree_cmp_total t))
  where
    go : (o : Ordering) → tree_cmp t u ≡ o → IsTrue (is_eq o) → t ≡ u
    go Less e h = cc
    go Equal e h = tree_cmp-equal t u e
    go Greater e h = cc
