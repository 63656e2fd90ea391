-- Two extensions of one kind from one width: a constant counts as one where it is that.
use Rattle.std.proofs.Common.{◌≡◌, ℕ, ◌<◌, refl, sym, ◌∙◌, ap, subst, cond, eqb, Bool, true, false, ◌&&◌, Option, Some, None, ◌⊎◌, inl, inr}
use Rattle.std.specs.Option.{option_or}
use Rattle.bits64.specs.declared.Width.{Width}
use Rattle.bits64.specs.Words.{bits_of, low}
use Rattle.term_tree.specs.declared.head.Head.TheVariants as heads
use Rattle.term_tree.specs.declared.head.Extension.{Extension}
use Rattle.term_tree.specs.declared.head.Extension.TheVariants.{Zero, Sign}
use Rattle.term_tree.specs.Tree.{Tree, Sum, Node, no_atoms, no_trees, tree, width_of}
use Rattle.term_tree.specs.Form.{same_width, narrower}
use Rattle.term_tree.proofs.OrderLaws.{eqb-true, same_width-true}
use Rattle.term_mean.specs.Meaning.{Valuation, mean}
use Rattle.term_mean.specs.Sums.{constant}
use Rattle.term_mean.specs.Extensions.{extended_by}
use Rattle.term_mean.specs.Zero.{Extended, Operands, extension_in, same_kind, operand_in, operands_of, operands_as, operands_in}
use Rattle.term_mean.proofs.SumLaws.{mean-constant}
use Rattle.term_mean.proofs.JoinLaws.{low_plus_zero}
use Rattle.term_mean.proofs.JoinedLaws.{and-true}
use Rattle.term_mean.proofs.ExtendedLaws.{extended-cut, narrower-less}

-- t is the extension of u to w bits
abbrev pub Extends : Valuation → Extension → Width → Width → Tree → Tree → Type 0
Extends v e p w t u = mean v t ≡ low w (extended_by e p (mean v u))

same_kind-true : (a b : Extension) → same_kind a b ≡ true → a ≡ b
same_kind-true Zero Zero e = refl
same_kind-true Zero Sign e = cc
same_kind-true Sign Zero e = cc
same_kind-true Sign Sign e = refl

extends-if : (v : Valuation) (x : Extended) (e : Extension) (w u : Width) (t p q : Tree) → mean v t ≡ low u (extended_by e (width_of p) (mean v p)) → (b : Bool) → (same_kind x.kind e && (same_width u w && same_width (width_of p) x.width)) ≡ b → cond b (Some p) None ≡ Some q → Extends v x.kind x.width w t q
extends-if v x e w u t p q m true f g =
    let a = and-true (same_kind x.kind e) (same_width u w && same_width (width_of p) x.width) f in
    let c = and-true (same_width u w) (same_width (width_of p) x.width) a.1 in
    let is : p ≡ q = cc in
    let here : mean v t ≡ low w (extended_by x.kind x.width (mean v p)) =
    m
    ∙ ap (λ y. low y (extended_by e (width_of p) (mean v p))) (same_width-true u w c.0)
    ∙ ap (λ y. low w (extended_by e y (mean v p))) (same_width-true (width_of p) x.width c.1)
    ∙ ap (λ y. low w (extended_by y x.width (mean v p))) (sym (same_kind-true x.kind e a.0)) in
    here ∙ ap (λ y. low w (extended_by x.kind x.width (mean v y))) is
extends-if v x e w u t p q m false f g = cc

constant-extends : (v : Valuation) (x : Extended) (w u : Width) (c : ℕ) (q : Tree) → (b : Bool) → eqb (low w (extended_by x.kind x.width (low u c))) (low u c) ≡ b → cond b (Some (constant x.width (low u c))) None ≡ Some q → Extends v x.kind x.width w (Sum u c no_atoms) q
constant-extends v x w u c q true f g =
    let n : ℕ = low u c in
    let is : constant x.width n ≡ q = cc in
    let number : mean v q ≡ low x.width n = ap (mean v) (sym is) ∙ mean-constant v x.width n in
    low_plus_zero u c
    ∙ sym (eqb-true (low w (extended_by x.kind x.width n)) n f)
    ∙ ap (low w) (sym (extended-cut x.kind x.width n) ∙ ap (extended_by x.kind x.width) (sym number))
constant-extends v x w u c q false f g = cc

operand-is : (v : Valuation) (x : Extended) (w : Width) (t q : Tree) → operand_in x w t ≡ Some q → Extends v x.kind x.width w t q
operand-is v x w (Node heads.Zext u n s (tree p no_trees)) q e = extends-if v x Zero w u (Node heads.Zext u n s (tree p no_trees)) p q refl _ refl e
operand-is v x w (Node heads.Sext u n s (tree p no_trees)) q e = extends-if v x Sign w u (Node heads.Sext u n s (tree p no_trees)) p q refl _ refl e
operand-is v x w (Sum u c no_atoms) q e = constant-extends v x w u c q _ refl e
operand-is v x w t q e = absurd (let none : ⊥ = cc in none)

-- an extension is from a narrower width
extension-narrow : (e : Extension) (w u : Width) (p : Tree) (x : Extended) → (b : Bool) → (same_width u w && narrower (width_of p) w) ≡ b → cond b (Some (record { kind = e; width = width_of p })) None ≡ Some x → bits_of x.width < bits_of w
extension-narrow e w u p x true f g =
    let a = and-true (same_width u w) (narrower (width_of p) w) f in
    let y : Extended = record { kind = e; width = width_of p } in
    let is : y ≡ x = cc in
    subst (λ z. bits_of z.width < bits_of w) is (narrower-less (width_of p) w a.1)
extension-narrow e w u p x false f g = cc

extension-is : (w : Width) (t : Tree) (x : Extended) → extension_in w t ≡ Some x → bits_of x.width < bits_of w
extension-is w (Node heads.Zext u n s (tree p no_trees)) x e = extension-narrow Zero w u p x _ refl e
extension-is w (Node heads.Sext u n s (tree p no_trees)) x e = extension-narrow Sign w u p x _ refl e
extension-is w t x e = absurd (let none : ⊥ = cc in none)

either : {A : Type 0} (o p : Option A) (x : A) → option_or o p ≡ Some x → (o ≡ Some x) ⊎ (p ≡ Some x)
either None p x e = inr e
either (Some y) p x e = inl e

-- what two terms extend
abbrev pub AreOperands : Valuation → Width → Tree → Tree → Operands → Type 0
AreOperands v w a b x = (bits_of x.width < bits_of w) × (Extends v x.kind x.width w a x.left) × (Extends v x.kind x.width w b x.right)

operands-both : (v : Valuation) (w : Width) (a b : Tree) (y : Extended) (x : Operands) → bits_of y.width < bits_of w → (p : Option Tree) → operand_in y w a ≡ p → (q : Option Tree) → operand_in y w b ≡ q → operands_of y p q ≡ Some x → AreOperands v w a b x
operands-both v w a b y x h (Some l) f (Some r) g e =
    let z : Operands = record { kind = y.kind; width = y.width; left = l; right = r } in
    let is : z ≡ x = cc in
    subst (AreOperands v w a b) is (h, operand-is v y w a l f, operand-is v y w b r g)
operands-both v w a b y x h (Some l) f None g e = cc
operands-both v w a b y x h None f q g e = cc

operands-of : (v : Valuation) (w : Width) (a b : Tree) (o : Option Extended) (x : Operands) → option_or (extension_in w a) (extension_in w b) ≡ o → operands_as o w a b ≡ Some x → AreOperands v w a b x
operands-of v w a b (Some y) x f e = operands-both v w a b y x (less (either (extension_in w a) (extension_in w b) y f)) (operand_in y w a) refl (operand_in y w b) refl e
  where
    less : (extension_in w a ≡ Some y) ⊎ (extension_in w b ≡ Some y) → bits_of y.width < bits_of w
    less (inl g) = extension-is w a y g
    less (inr g) = extension-is w b y g
operands-of v w a b None x f e = cc

pub operands-are : (v : Valuation) (w : Width) (a b : Tree) (x : Operands) → operands_in w a b ≡ Some x → AreOperands v w a b x
operands-are v w a b x e = operands-of v w a b (option_or (extension_in w a) (extension_in w b)) x refl e
