-- Terms that the order does not tell apart are the same.
use Rattle.std.proofs.Common.{◌≡◌, ℕ, ◌+◌, ◌-◌, ◌<◌, nat_lt, false, List, [], ◌∷◌, refl, sym, ◌∙◌, ap, arith, tests, cond, eqb, true, slice_index_or}
use Rattle.std.specs.declared.cmp.Ordering.{Ordering}
use Rattle.std.specs.declared.cmp.Ordering.TheVariants.{Less, Equal, Greater}
use Rattle.std.specs.Prelude.{if◌then◌else◌}
use Rattle.std.specs.Ordering.{nat_cmp, ordering_then}
use Rattle.bits64.specs.declared.Width.{Width}
use Rattle.bits64.specs.declared.Width.TheVariants.{W8, W16, W32, W64}
use Rattle.bits64.specs.Words.{bits_of}
use Rattle.bits64.specs.Operators.{opaque_index}
use Rattle.bits64.proofs.Operators.{opaque_at, opaque_at-index, opaque_few}
use Rattle.term_tree.specs.declared.head.Head.{Head}
use Rattle.term_tree.specs.declared.head.Head.TheVariants.{Reg, Sym, Mul, Opaque, And, Ior, Xor, Shl, Shr, Sar, Trunc, Zext, Sext, Lt, Ltu, Eq, Load}
use Rattle.term_tree.specs.declared.head.Head.TheVariants as heads
use Rattle.term_tree.specs.Tree.{Tree, Atoms, Trees, Sum, Node, no_atoms, atom, no_trees, tree}
use Rattle.term_tree.specs.Form.{same_width}
use Rattle.term_tree.specs.Order.{head_index, numbers_cmp, sum_before, sum_after, tree_cmp, atoms_cmp, trees_cmp}

pub then-equal : (a b : Ordering) → ordering_then a b ≡ Equal → (a ≡ Equal) × (b ≡ Equal)
then-equal Less b e = cc
then-equal Equal b e = (refl, e)
then-equal Greater b e = cc

pub nat_cmp-equal : (x y : ℕ) → nat_cmp x y ≡ Equal → x ≡ y
nat_cmp-equal x y e = grind (arith, tests)

-- a head and a width from its number: operators of which nothing else is known stand between the heads
-- before and behind them
head_at : ℕ → Head
head_at i =
    if nat_lt i 4 then slice_index_or (Reg ∷ Sym ∷ heads.Sum ∷ Mul ∷ []) i Reg else (
    if nat_lt i 64 then Opaque (opaque_at (i - 4)) else slice_index_or (And ∷ Ior ∷ Xor ∷ Shl ∷ Shr ∷ Sar ∷ Trunc ∷ Zext ∷ Sext ∷ Lt ∷ Ltu ∷ Eq ∷ Load ∷ []) (i - 64) Reg)

head_at-opaque : (i : ℕ) → i < 60 → head_at (4 + i) ≡ Opaque (opaque_at i)
unfolding head_at
head_at-opaque i few =
    let back : 4 + i - 4 ≡ i = omega arith in
    let high : nat_lt (4 + i) 4 ≡ false = grind arith in
    let low : nat_lt (4 + i) 64 ≡ true = grind (arith, few) in
    cc

head_at-index : (h : Head) → head_at (head_index h) ≡ h
unfolding head_at
head_at-index (Opaque o) = head_at-opaque (opaque_index o) (opaque_few o) ∙ ap Opaque (opaque_at-index o)
head_at-index Reg = refl
head_at-index Sym = refl
head_at-index heads.Sum = refl
head_at-index Mul = refl
head_at-index And = refl
head_at-index Ior = refl
head_at-index Xor = refl
head_at-index Shl = refl
head_at-index Shr = refl
head_at-index Sar = refl
head_at-index Trunc = refl
head_at-index Zext = refl
head_at-index Sext = refl
head_at-index Lt = refl
head_at-index Ltu = refl
head_at-index Eq = refl
head_at-index Load = refl

pub same_head : (h k : Head) → head_index h ≡ head_index k → h ≡ k
same_head h k e = sym (head_at-index h) ∙ ap head_at e ∙ head_at-index k

width_at : ℕ → Width
width_at n = cond (eqb n 8) W8 (cond (eqb n 16) W16 (cond (eqb n 32) W32 W64))

width_at-bits : (w : Width) → width_at (bits_of w) ≡ w
unfolding width_at
width_at-bits W8 = refl
width_at-bits W16 = refl
width_at-bits W32 = refl
width_at-bits W64 = refl

pub same_width_bits : (v w : Width) → bits_of v ≡ bits_of w → v ≡ w
same_width_bits v w e = sym (width_at-bits v) ∙ ap width_at e ∙ width_at-bits w

pub eqb-true : (m n : ℕ) → eqb m n ≡ true → m ≡ n
eqb-true m n e = grind (arith, tests)

pub same_width-true : (v w : Width) → same_width v w ≡ true → v ≡ w
same_width-true v w e = same_width_bits v w (eqb-true (bits_of v) (bits_of w) e)

pub numbers_cmp-equal : (s t : List ℕ) → numbers_cmp s t ≡ Equal → s ≡ t
numbers_cmp-equal [] [] e = refl
numbers_cmp-equal [] (y ∷ ys) e = cc
numbers_cmp-equal (x ∷ xs) [] e = cc
numbers_cmp-equal (x ∷ xs) (y ∷ ys) e =
    let p = then-equal (nat_cmp x y) (numbers_cmp xs ys) e in
    let p0 = nat_cmp-equal x y p.0 in
    let p1 = numbers_cmp-equal xs ys p.1 in
    cc

sum_before-ne : (h : Head) → sum_before h ≡ Equal → ⊥
sum_before-ne Reg e = cc
sum_before-ne Sym e = cc
sum_before-ne _ e = cc

sum_after-ne : (h : Head) → sum_after h ≡ Equal → ⊥
sum_after-ne Reg e = cc
sum_after-ne Sym e = cc
sum_after-ne _ e = cc

mutual
  pub tree_cmp-equal : (t u : Tree) → tree_cmp t u ≡ Equal → t ≡ u
  tree_cmp-equal (Sum w c xs) (Sum w' c' ys) e =
      let p = then-equal _ _ e in
      let q = then-equal _ _ p.1 in
      let p0 = same_width_bits w w' (nat_cmp-equal _ _ p.0) in
      let q0 = nat_cmp-equal c c' q.0 in
      let q1 = atoms_cmp-equal xs ys q.1 in
      cc
  tree_cmp-equal (Sum w c xs) (Node h' w' n' s' qs) e = absurd (sum_before-ne h' e)
  tree_cmp-equal (Node h w n s ps) (Sum w' c' ys) e = absurd (sum_after-ne h e)
  tree_cmp-equal (Node h w n s ps) (Node h' w' n' s' qs) e =
      let p = then-equal _ _ e in
      let q = then-equal _ _ p.1 in
      let r = then-equal _ _ q.1 in
      let z = then-equal _ _ r.1 in
      let p0 = same_head h h' (nat_cmp-equal _ _ p.0) in
      let q0 = same_width_bits w w' (nat_cmp-equal _ _ q.0) in
      let r0 = nat_cmp-equal n n' r.0 in
      let z0 = numbers_cmp-equal s s' z.0 in
      let z1 = trees_cmp-equal ps qs z.1 in
      cc

  pub atoms_cmp-equal : (xs ys : Atoms) → atoms_cmp xs ys ≡ Equal → xs ≡ ys
  atoms_cmp-equal no_atoms no_atoms e = refl
  atoms_cmp-equal no_atoms (atom j u ys) e = cc
  atoms_cmp-equal (atom k t xs) no_atoms e = cc
  atoms_cmp-equal (atom k t xs) (atom j u ys) e =
      let p = then-equal _ _ e in
      let q = then-equal _ _ p.1 in
      let p0 = tree_cmp-equal t u p.0 in
      let q0 = nat_cmp-equal k j q.0 in
      let q1 = atoms_cmp-equal xs ys q.1 in
      cc

  pub trees_cmp-equal : (ps qs : Trees) → trees_cmp ps qs ≡ Equal → ps ≡ qs
  trees_cmp-equal no_trees no_trees e = refl
  trees_cmp-equal no_trees (tree u qs) e = cc
  trees_cmp-equal (tree t ps) no_trees e = cc
  trees_cmp-equal (tree t ps) (tree u qs) e =
      let p = then-equal _ _ e in
      let p0 = tree_cmp-equal t u p.0 in
      let p1 = trees_cmp-equal ps qs p.1 in
      cc
