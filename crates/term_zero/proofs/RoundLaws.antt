-- A test for 0 comes to its end in no more rounds than the term has nodes: each round that goes on takes an operator away.
use Rattle.std.proofs.Common.{◌≡◌, ℕ, zero, suc, ◌+◌, ◌-◌, ◌^◌, ◌<◌, ◌≤◌, refl, sym, ◌∙◌, ap, subst, arith, cond, eqb, ltb, ltb-true, lt-ltb, Bool, true, false, ◌&&◌, Option, Some, None, ◌⊎◌, inl, inr}
use Rattle.std.specs.Option.{option_or}
use Rattle.bits64.specs.declared.Width.{Width}
use Rattle.bits64.specs.declared.Width.TheVariants.{W8}
use Rattle.bits64.specs.Words.{bits_of, low, difference_of}
use Rattle.term_tree.specs.declared.head.Head.TheVariants as heads
use Rattle.term_tree.specs.Tree.{Tree, Sum, Node, no_atoms, atom, no_trees, tree, tree_size}
use Rattle.term_tree.specs.Form.{same_width}
use Rattle.term_cuts.specs.term_mean.Sums.{constant, constant_in, minus}
use Rattle.term_cuts.specs.term_mean.Masks.{low_8}
use Rattle.term_cuts.specs.term_mean.Truths.{is_truth, opposite}
use Rattle.term_cuts.specs.term_mean.Zero.{nearer, Extended, Operands, extension_in, operand_in, operands_of, operands_as, operands_in, from_zero, as_difference, zero_extended_test, zero_difference, zero_xor, zero_constant, zero_chosen, zero_test, equals_zero}
use Rattle.term_zero.specs.machine.Rounds.{xor_parts, zero_parted}
use Rattle.term_zero.proofs.OperatorLaws.{operators, operators-below, operators-minus, operators-nearer}

-- ---- what extensions extend has fewer operators
operand-chosen : (p q : Tree) (b : Bool) → cond b (Some p) None ≡ Some q → operators q ≡ operators p
operand-chosen p q true e = let is : q ≡ p = cc in ap operators is
operand-chosen p q false e = cc

operand-within : (x : Extended) (w : Width) (t q : Tree) → operand_in x w t ≡ Some q → operators q ≤ operators t
operand-within x w (Node heads.Zext u n s (tree p no_trees)) q e = let h = operand-chosen p q _ e in omega arith
operand-within x w (Node heads.Sext u n s (tree p no_trees)) q e = let h = operand-chosen p q _ e in omega arith
operand-within x w (Sum u c no_atoms) q e = let h = operand-chosen (constant x.width (low u c)) q _ e in omega arith
operand-within x w t q e = absurd (let none : ⊥ = cc in none)

operand-fewer : (x y : Extended) (w : Width) (t q : Tree) → extension_in w t ≡ Some y → operand_in x w t ≡ Some q → operators q < operators t
operand-fewer x y w (Node heads.Zext u n s (tree p no_trees)) q f e = let h = operand-chosen p q _ e in omega arith
operand-fewer x y w (Node heads.Sext u n s (tree p no_trees)) q f e = let h = operand-chosen p q _ e in omega arith
operand-fewer x y w t q f e = absurd (let none : ⊥ = cc in none)

abbrev Fewer : Tree → Tree → Operands → Type 0
Fewer a b x = operators x.left + operators x.right < operators a + operators b

either : {A : Type 0} (o p : Option A) (x : A) → option_or o p ≡ Some x → (o ≡ Some x) ⊎ (p ≡ Some x)
either None p x e = inr e
either (Some y) p x e = inl e

parts-fewer : (w : Width) (a b l r : Tree) (y : Extended) → operand_in y w a ≡ Some l → operand_in y w b ≡ Some r → (extension_in w a ≡ Some y) ⊎ (extension_in w b ≡ Some y) → operators l + operators r < operators a + operators b
parts-fewer w a b l r y f g (inl h) =
    let left = operand-fewer y y w a l h f in
    let right = operand-within y w b r g in
    omega arith
parts-fewer w a b l r y f g (inr h) =
    let left = operand-within y w a l f in
    let right = operand-fewer y y w b r h g in
    omega arith

both-fewer : (w : Width) (a b : Tree) (y : Extended) (x : Operands) → (extension_in w a ≡ Some y) ⊎ (extension_in w b ≡ Some y) → (p : Option Tree) → operand_in y w a ≡ p → (q : Option Tree) → operand_in y w b ≡ q → operands_of y p q ≡ Some x → Fewer a b x
both-fewer w a b y x h (Some l) f (Some r) g e =
    let z : Operands = record { kind = y.kind; width = y.width; left = l; right = r } in
    let is : z ≡ x = cc in
    subst (Fewer a b) is (parts-fewer w a b l r y f g h)
both-fewer w a b y x h (Some l) f None g e = cc
both-fewer w a b y x h None f q g e = cc

operands-found : (w : Width) (a b : Tree) (o : Option Extended) (x : Operands) → option_or (extension_in w a) (extension_in w b) ≡ o → operands_as o w a b ≡ Some x → Fewer a b x
operands-found w a b (Some y) x f e = both-fewer w a b y x (either (extension_in w a) (extension_in w b) y f) (operand_in y w a) refl (operand_in y w b) refl e
operands-found w a b None x f e = cc

operands-fewer : (w : Width) (a b : Tree) (x : Operands) → operands_in w a b ≡ Some x → Fewer a b x
operands-fewer w a b x e = operands-found w a b (option_or (extension_in w a) (extension_in w b)) x refl e

-- ---- a term as a difference has no more
abbrev Within : Tree → Tree × Tree → Type 0
Within t d = operators d.0 + operators d.1 ≤ operators t

one-atom : (w u : Width) (c k : ℕ) (t : Tree) (b : Bool) → Within (Sum u c (atom k t no_atoms)) (cond b (t, constant w (difference_of w 0 c)) (from_zero w (Sum u c (atom k t no_atoms))))
one-atom w u c k t true = omega arith
one-atom w u c k t false = omega arith

two-atoms : (w u : Width) (c k j : ℕ) (t r : Tree) (b : Bool) → Within (Sum u c (atom k t (atom j r no_atoms))) (cond b (t, r) (from_zero w (Sum u c (atom k t (atom j r no_atoms)))))
two-atoms w u c k j t r true = omega arith
two-atoms w u c k j t r false = omega arith

difference-within : (w : Width) (t : Tree) → Within t (as_difference w t)
difference-within w (Sum u c (atom k t no_atoms)) = one-atom w u c k t (same_width u w && eqb k 1)
difference-within w (Sum u c (atom k t (atom j r no_atoms))) = two-atoms w u c k j t r (same_width u w && (eqb c 0 && (eqb k 1 && eqb j (2 ^ bits_of w - 1))))
difference-within w (Sum u c (atom k t (atom j r (atom i q xs)))) = omega arith
difference-within w (Sum u c no_atoms) = omega arith
difference-within w (Node h u n s ps) = omega arith

-- ---- a round is the same where what goes on in it is the same on terms of fewer operators
abbrev Agree : ℕ → (Width → Tree → Tree) → (Width → Tree → Tree) → Type 0
Agree m f g = (w : Width) (t : Tree) → operators t < m → f w t ≡ g w t

same-extended_test : (f g : Width → Tree → Tree) (w : Width) (t : Tree) (o : Option Operands) → Agree (operators t) f g → operands_in w (as_difference w t).0 (as_difference w t).1 ≡ o → zero_extended_test o f w t ≡ zero_extended_test o g w t
same-extended_test f g w t (Some x) h e =
    let few = operands-fewer w (as_difference w t).0 (as_difference w t).1 x e in
    let all = difference-within w t in
    let new = operators-minus x.width x.left x.right in
    h x.width (minus x.width x.left x.right) (omega arith)
same-extended_test f g w t None h e = refl

same-difference : (f g : Width → Tree → Tree) (w : Width) (t : Tree) → Agree (operators t) f g → zero_difference f w t ≡ zero_difference g w t
same-difference f g w t h = same-extended_test f g w t (operands_in w (as_difference w t).0 (as_difference w t).1) h refl

same-xor : (f g : Width → Tree → Tree) (w : Width) (t : Tree) → Agree (operators t) f g → zero_xor f w t ≡ zero_xor g w t
same-xor f g w (Node heads.Xor u n s (tree a (tree b no_trees))) h = go (same_width u w)
  where
    go : (c : Bool) → cond c (f w (minus w a b)) (zero_difference f w (Node heads.Xor u n s (tree a (tree b no_trees)))) ≡ cond c (g w (minus w a b)) (zero_difference g w (Node heads.Xor u n s (tree a (tree b no_trees))))
    go true = let new = operators-minus w a b in h w (minus w a b) (omega arith)
    go false = same-difference f g w (Node heads.Xor u n s (tree a (tree b no_trees))) h
same-xor f g w t h = same-difference f g w t h

same-truth : (f g : Width → Tree → Tree) (w : Width) (t : Tree) → Agree (operators t) f g → (b : Bool) → cond b (opposite (low_8 t)) (zero_xor f w t) ≡ cond b (opposite (low_8 t)) (zero_xor g w t)
same-truth f g w t h true = refl
same-truth f g w t h false = same-xor f g w t h

same-constant : (f g : Width → Tree → Tree) (w : Width) (t : Tree) → Agree (operators t) f g → (o : Option ℕ) → zero_constant o f w t ≡ zero_constant o g w t
same-constant f g w t h (Some c) = refl
same-constant f g w t h None = same-truth f g w t h (is_truth t)

-- any two numbers of rounds that are above the operators of a term come to the same
rounds-same : (m n : ℕ) (w : Width) (t : Tree) → operators t < m → operators t < n → zero_test m w t ≡ zero_test n w t
unfolding zero_test
rounds-same zero n w t a b = absurd (omega arith)
rounds-same (suc m) zero w t a b = absurd (omega arith)
rounds-same (suc m) (suc n) w t a b =
    let near = operators-nearer w t in
    same-constant (zero_test m) (zero_test n) w (nearer w t) (λ u s h. rounds-same m n u s (omega arith) (omega arith)) (constant_in (nearer w t))

pub equals_zero-enough : (n : ℕ) (w : Width) (t : Tree) → tree_size t ≤ n → equals_zero w t ≡ zero_test n w t
equals_zero-enough n w t a = let h = operators-below t in rounds-same (tree_size t) n w t (omega arith) (omega arith)

-- ---- rounds in the code: `answer` is what `again` makes of a next term, whatever `again` is
abbrev IsNext : Width → Tree → Width → Tree → Type 0
IsNext w t v u = (again : Width → Tree → Tree) → again v u ≡ zero_chosen again w (nearer w t)

-- two tests that part only on terms with no fewer operators than t
abbrev marked : Bool → Tree
marked b = cond b (Sum W8 0 no_atoms) (Sum W8 1 no_atoms)

pub next-fewer : (w : Width) (t : Tree) (v : Width) (u : Tree) → IsNext w t v u → operators u < operators t
next-fewer w t v u h = go (ltb (operators u) (operators t)) refl
  where
    f : Width → Tree → Tree
    f x s = marked true

    g : Width → Tree → Tree
    g x s = marked (ltb (operators s) (operators t))

    agree : Agree (operators (nearer w t)) f g
    agree x s l =
        let near = operators-nearer w t in
        ap marked (sym (lt-ltb (operators s) (operators t) (omega arith)))

    same : marked true ≡ marked (ltb (operators u) (operators t))
    same = h f ∙ same-constant f g w (nearer w t) agree (constant_in (nearer w t)) ∙ sym (h g)

    go : (b : Bool) → ltb (operators u) (operators t) ≡ b → operators u < operators t
    go true e = ltb-true (operators u) (operators t) e
    go false e = absurd (let parted : marked true ≡ marked false = same ∙ ap marked e in cc)

pub next-same : (w : Width) (t : Tree) (v : Width) (u : Tree) → IsNext w t v u → zero_test (suc (operators u)) v u ≡ zero_test (suc (operators t)) w t
unfolding zero_test
next-same w t v u h =
    let fewer = next-fewer w t v u h in
    rounds-same (suc (operators u)) (operators t) v u (omega arith) fewer ∙ h (zero_test (operators t))

pub answer-same : (w : Width) (t answer : Tree) → ((again : Width → Tree → Tree) → answer ≡ zero_chosen again w (nearer w t)) → answer ≡ zero_test (suc (operators t)) w t
unfolding zero_test
answer-same w t answer h = h (zero_test (operators t))

pub rounds-begin : (w : Width) (t : Tree) → zero_test (suc (operators t)) w t ≡ equals_zero w t
rounds-begin w t = let h = operators-below t in rounds-same (suc (operators t)) (tree_size t) w t (omega arith) (omega arith)

-- the test of an exclusive or goes by its parts
pub zero_xor-parted : (again : Width → Tree → Tree) (w : Width) (t : Tree) → zero_parted (xor_parts w t) again w t ≡ zero_xor again w t
zero_xor-parted again w (Node heads.Xor u n s (tree a (tree b no_trees))) = go (same_width u w)
  where
    t : Tree
    t = Node heads.Xor u n s (tree a (tree b no_trees))

    go : (c : Bool) → zero_parted (cond c (Some (a, b)) None) again w t ≡ cond c (again w (minus w a b)) (zero_difference again w t)
    go true = refl
    go false = refl
zero_xor-parted again w t = refl
