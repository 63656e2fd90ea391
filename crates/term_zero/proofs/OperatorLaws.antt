-- How many operators a term has, and that no rule for sums makes more of them.
use Rattle.std.proofs.Common.{◌≡◌, ℕ, zero, suc, ◌+◌, ◌-◌, ◌^◌, ◌<◌, ◌≤◌, refl, ap, arith, cond, Bool, true, false, List, [], ◌∷◌, ◌++◌}
use Rattle.std.specs.declared.cmp.Ordering.{Ordering}
use Rattle.std.specs.declared.cmp.Ordering.TheVariants.{Less, Equal, Greater}
use Rattle.bits64.specs.declared.Width.{Width}
use Rattle.bits64.specs.Words.{bits_of, low, sum_of, product_of}
use Rattle.term_tree.specs.Tree.{Tree, Atoms, Trees, AtomTree, Sum, Node, no_atoms, atom, no_trees, tree, width_of, atoms_of, list_of_atoms, tree_size, atoms_size, trees_size}
use Rattle.term_tree.specs.Form.{same_width}
use Rattle.term_tree.specs.Order.{tree_cmp, numbers_cmp}
use Rattle.term_cuts.specs.term_mean.Sums.{with_atom, placed, insert, in_order, scaled, constant_at, atoms_at, sum, constant, plus_times, minus, negated}
use Rattle.term_cuts.specs.term_mean.Zero.{numbers_of, first_of, nearer}
use Rattle.term_cuts.proofs.term_mean.SumLaws.{atoms_of-list_of}

-- the nodes of a term that have parts, sums aside
abbrev mutual
  pub operators : Tree → ℕ
  operators (Sum w c xs) = atoms_operators xs
  operators (Node h w n s no_trees) = 0
  operators (Node h w n s (tree p ps)) = 1 + (operators p + parts_operators ps)

  pub atoms_operators : Atoms → ℕ
  atoms_operators no_atoms = 0
  atoms_operators (atom k t xs) = operators t + atoms_operators xs

  pub parts_operators : Trees → ℕ
  parts_operators no_trees = 0
  parts_operators (tree t ts) = operators t + parts_operators ts

-- ---- a term has more nodes than operators
mutual
  pub operators-below : (t : Tree) → operators t < tree_size t
  operators-below (Sum w c xs) = let h = atoms-within xs in omega arith
  operators-below (Node h w n s no_trees) = omega arith
  operators-below (Node h w n s (tree p ps)) =
      let a = operators-below p in
      let b = parts-within ps in
      omega arith

  atoms-within : (xs : Atoms) → atoms_operators xs ≤ atoms_size xs
  atoms-within no_atoms = omega arith
  atoms-within (atom k t xs) =
      let a = operators-below t in
      let b = atoms-within xs in
      omega arith

  parts-within : (ts : Trees) → parts_operators ts ≤ trees_size ts
  parts-within no_trees = omega arith
  parts-within (tree t ts) =
      let a = operators-below t in
      let b = parts-within ts in
      omega arith

-- ---- sums
abbrev list_operators : List AtomTree → ℕ
list_operators xs = atoms_operators (atoms_of xs)

operators-with_atom : (k : ℕ) (t : Tree) (xs : List AtomTree) → list_operators (with_atom k t xs) ≤ operators t + list_operators xs
operators-with_atom zero t xs = omega arith
operators-with_atom (suc k) t xs = omega arith

operators-insert : (w : Width) (k : ℕ) (t : Tree) (xs : List AtomTree) → list_operators (insert w k t xs) ≤ operators t + list_operators xs
operators-insert w k t [] = operators-with_atom (low w k) t []
operators-insert w k t (x ∷ xs) = go (tree_cmp t x.1) (operators-insert w k t xs)
  where
    go : (o : Ordering) → list_operators (insert w k t xs) ≤ operators t + list_operators xs → list_operators (placed o w k t x xs (insert w k t xs)) ≤ operators t + (operators x.1 + list_operators xs)
    go Less ih = operators-with_atom (low w k) t (x ∷ xs)
    go Equal ih = let one = operators-with_atom (low w (k + x.0)) x.1 xs in omega arith
    go Greater ih = omega arith

operators-in_order : (w : Width) (xs ys : List AtomTree) → list_operators (in_order w xs ys) ≤ list_operators xs + list_operators ys
operators-in_order w [] ys = omega arith
operators-in_order w (x ∷ xs) ys =
    let rest = operators-in_order w xs (insert w x.0 x.1 ys) in
    let one = operators-insert w x.0 x.1 ys in
    omega arith

operators-scaled : (w : Width) (f : ℕ) (xs : List AtomTree) → list_operators (scaled w f xs) ≡ list_operators xs
operators-scaled w f [] = refl
operators-scaled w f (x ∷ xs) = ap (λ n. operators x.1 + n) (operators-scaled w f xs)

operators-append : (xs ys : List AtomTree) → list_operators (xs ++ ys) ≡ list_operators xs + list_operators ys
operators-append [] ys = omega arith
operators-append (x ∷ xs) ys = let rest = operators-append xs ys in omega arith

operators-atoms_at : (w : Width) (t : Tree) → list_operators (atoms_at w t) ≡ operators t
operators-atoms_at w (Sum u c xs) = go (same_width u w)
  where
    go : (b : Bool) → list_operators (cond b (list_of_atoms xs) ((1, Sum u c xs) ∷ [])) ≡ atoms_operators xs
    go true = ap atoms_operators (atoms_of-list_of xs)
    go false = omega arith
operators-atoms_at w (Node h u n s ps) = omega arith

operators-sum : (w : Width) (c : ℕ) (xs : List AtomTree) → operators (sum w c xs) ≡ list_operators xs
operators-sum w zero ((suc zero, t) ∷ []) = go (same_width (width_of t) w)
  where
    go : (b : Bool) → operators (cond b t (Sum w 0 (atom 1 t no_atoms))) ≡ operators t + 0
    go true = omega arith
    go false = refl
operators-sum w c xs = refl

operators-plus_times : (w : Width) (a : Tree) (f : ℕ) (b : Tree) → operators (plus_times w a f b) ≤ operators a + operators b
operators-plus_times w a f b =
    let c : ℕ = sum_of w (constant_at w a) (product_of w f (constant_at w b)) in
    let mine : List AtomTree = atoms_at w a in
    let its : List AtomTree = scaled w f (atoms_at w b) in
    let whole = operators-sum w c (in_order w (mine ++ its) []) in
    let put = operators-in_order w (mine ++ its) [] in
    let both = operators-append mine its in
    let same = operators-scaled w f (atoms_at w b) in
    let left = operators-atoms_at w a in
    let right = operators-atoms_at w b in
    omega arith

pub operators-minus : (w : Width) (a b : Tree) → operators (minus w a b) ≤ operators a + operators b
operators-minus w a b = operators-plus_times w a (2 ^ bits_of w - 1) b

pub operators-nearer : (w : Width) (t : Tree) → operators (nearer w t) ≤ operators t
operators-nearer w t = go (numbers_cmp (numbers_of w t) (numbers_of w (negated w t)))
  where
    go : (o : Ordering) → operators (first_of o t (negated w t)) ≤ operators t
    go Less = omega arith
    go Equal = omega arith
    go Greater = let new = operators-plus_times w (constant w 0) (2 ^ bits_of w - 1) t in omega arith
