-- Induction over what trees stand for: what holds of the words, and of what is made of expressions of which it holds, holds of
-- each expression that a tree stands for.
use Rattle.std.proofs.Common.{◌≡◌, ◌≤◌, ◌<◌, suc, List, [], ◌∷◌, map, drop, length, true, ◌&&◌, Option, Some, None, refl, sym, subst, ◌∙◌, arith}
use Rattle.std.specs.List.{AllByRecursion, list_all}
use Rattle.rtx_tree.specs.declared.code.Code.TheVariants.{Parallel}
use Rattle.rtx_tree.specs.declared.code.Mode.TheVariants.{Void}
use Rattle.rtx_tree.specs.declared.tree.Rtx.{Rtx}
use Rattle.rtx_tree.specs.Tree.{node_of}
use Rattle.lisp_read.specs.declared.head.Opening.{Opening}
use Rattle.rtx_tree.specs.declared.class.Class.TheVariants as class
use Rattle.lisp_read.specs.declared.position.Position.{Position}
use Rattle.lisp_read.specs.declared.position.Position.TheVariants.{Pattern}
use Rattle.lisp_read.specs.declared.tree.Tree.{Tree, out-Tree}
use Rattle.lisp_read.specs.declared.tree.Tree.TheOpen.{Tree-F}
use Rattle.lisp_read.specs.declared.tree.Tree.TheVariants as tree
use Rattle.lisp_read.specs.Shape.{items_at, items_of, vector_at, vector_of, is_nested, is_vector}
use Rattle.lisp_read.specs.Parsed.{stands, each_parsed}
use Rattle.lisp_read.specs.Expression.{meaning_of, elements_of, head_of_items, head_of, head_at, placed, class_of, read_at, each_at, parts_of_class, expression_by, inside_at}
use Rattle.lisp_read.proofs.Meanings.{read_at_out, elements_out}
use Rattle.lisp_read.proofs.TreeInduction.{Steps, induction}
use Rattle.rtl_print.proofs.Modes.{Placed, placed_says}
use Rattle.rtl_print.proofs.Numbers.{and_true, then_some}
use Rattle.rtl_print.proofs.Parsing.{tested, pair_stands}
use Rattle.rtl_print.proofs.Positions.{parts_positions, fits}
use Rattle.rtl_print.proofs.ReadCases.{Leaf, Reads, reads}
use Rattle.rtl_print.proofs.Same.{out-Atom, out-Str, out-Block, out-List, out-Vector}

module _ (Q : Position → Tree → Rtx → Type 0) where
  -- expressions at positions, the first of the trees; the trees behind them are passed over
  abbrev pub EachAt : List Position → List Tree → List Rtx → Type 0
  EachAt [] ts [] = Unit {0}
  EachAt (p ∷ ps) (t ∷ ts) (x ∷ xs) = (read_at p t ≡ stands x) × Q p t x × EachAt ps ts xs
  EachAt _ _ _ = ⊥

  -- the elements of a vector
  abbrev pub Elements : List Tree → List Rtx → Type 0
  Elements [] [] = Unit {0}
  Elements (t ∷ ts) (x ∷ xs) = (read_at Pattern t ≡ stands x) × Q Pattern t x × Elements ts xs
  Elements _ _ = ⊥

  pub record Holds : Type 0 where
    pub leaf : (p : Position) (h : Opening) (t a : Tree) (ts : List Tree) (x : Rtx) → Placed p h → items_of t ≡ a ∷ ts → Leaf p h t x → Q p t x
    pub parallel : (p : Position) (h : Opening) (t a v : Tree) (kids : List Rtx) → Placed p h → class_of h ≡ class.Parallel → items_of t ≡ a ∷ v ∷ [] → is_vector v ≡ true → Elements (vector_of v) kids → Q p t (node_of Parallel Void kids)
    pub node : (p : Position) (h : Opening) (t a : Tree) (ts : List Tree) (ps : List Position) (kids : List Rtx) → Placed p h → items_of t ≡ a ∷ ts → parts_of_class (class_of h) (a ∷ ts) ≡ Some ps → EachAt ps ts kids → Q p t (node_of h.code h.mode kids)

  abbrev P : Tree → Type 0
  P t = ((p : Position) (x : Rtx) → read_at p t ≡ stands x → Q p t x) × ((kids : List Rtx) → elements_of t ≡ stands kids → (is_vector t ≡ true) × Elements (vector_of t) kids)

  each_holds : (ps : List Position) (ts : List Tree) (kids : List Rtx) → AllByRecursion P ts → length ps ≤ length ts → each_at ps (map meaning_of ts) ≡ stands kids → EachAt ps ts kids
  each_holds [] ts [] all le e = tt
  each_holds [] ts (x ∷ xs) all le e = absurd (let none : ⊥ = cc in none)
  each_holds (p ∷ ps) [] kids all le e = absurd (omega (arith, le))
  each_holds (p ∷ ps) (t ∷ ts) kids all le e =
      let s = pair_stands (read_at p t) (each_at ps (map meaning_of ts)) (λ (y : Rtx) (ys : List Rtx). y ∷ ys) kids e in
      subst (λ (xs : List Rtx). EachAt (p ∷ ps) (t ∷ ts) xs) s.4 (s.2, all.0.0 p s.0 s.2, each_holds ps ts s.1 all.1 (omega (arith, le)) s.3)

  elements_hold : (ts : List Tree) (kids : List Rtx) → AllByRecursion P ts → each_parsed (read_at Pattern) ts ≡ stands kids → Elements ts kids
  elements_hold [] [] all e = tt
  elements_hold [] (x ∷ xs) all e = absurd (let none : ⊥ = cc in none)
  elements_hold (t ∷ ts) kids all e =
      let s = pair_stands (read_at Pattern t) (each_parsed (read_at Pattern) ts) (λ (y : Rtx) (ys : List Rtx). y ∷ ys) kids e in
      subst (λ (xs : List Rtx). Elements (t ∷ ts) xs) s.4 (s.2, all.0.0 Pattern s.0 s.2, elements_hold ts s.1 all.1 s.3)

  elements_in : (t : Tree) → AllByRecursion P (vector_of t) → (kids : List Rtx) → elements_of t ≡ stands kids → (is_vector t ≡ true) × Elements (vector_of t) kids
  elements_in t all kids e =
      let s = tested (is_vector t && list_all is_nested (vector_of t)) t (each_parsed (read_at Pattern) (vector_of t)) kids (sym (elements_out t) ∙ e) in
      ((and_true (is_vector t) (list_all is_nested (vector_of t)) s.0).0, elements_hold (vector_of t) kids all s.1)

  module _ (holds : Holds) where
    node_in : (p : Position) (h : Opening) (t : Tree) (items : List Tree) (ps : List Position) (kids : List Rtx) → Placed p h → AllByRecursion P items → items_of t ≡ items →
        parts_of_class (class_of h) items ≡ Some ps → each_at ps (drop 1 (map meaning_of items)) ≡ stands kids → Q p t (node_of h.code h.mode kids)
    node_in p h t [] ps kids placed all is parts e = absurd (omega (arith, fits (class_of h) [] ps (parts_positions (class_of h) [] ps parts).0))
    node_in p h t (a ∷ ts) ps kids placed all is parts e =
        let less : length ps < suc (length ts) = fits (class_of h) (a ∷ ts) ps (parts_positions (class_of h) (a ∷ ts) ps parts).0 in
        holds.node p h t a ts ps kids placed is parts (each_holds ps ts kids all.1 (omega (arith, less)) e)

    leaf_in : (p : Position) (h w : Opening) (t : Tree) (items : List Tree) (x : Rtx) → Placed p h → items_of t ≡ items → head_of_items items ≡ Some w → Leaf p h t x → Q p t x
    leaf_in p h w t [] x placed is head l = absurd (let none : ⊥ = cc in none)
    leaf_in p h w t (a ∷ ts) x placed is head l = holds.leaf p h t a ts x placed is l

    by_case : (p : Position) (h w : Opening) (t : Tree) (x : Rtx) → head_of t ≡ Some w → Placed p h → AllByRecursion P (items_of t) → Reads p h t x → Q p t x
    by_case p h w t x head placed all (Reads.leaf l) = leaf_in p h w t (items_of t) x placed refl head l
    by_case p h w t x head placed all (Reads.parallel a v kids c is e same) =
        let inner : P a × (P v × Unit {0}) = subst (AllByRecursion P) is all in
        subst (Q p t) (sym same) (holds.parallel p h t a v kids placed c is (inner.1.0.1 kids e).0 (inner.1.0.1 kids e).1)
    by_case p h w t x head placed all (Reads.node ps kids parts e same) = subst (Q p t) (sym same) (node_in p h t (items_of t) ps kids placed all refl parts e)

    read_in : (t : Tree) → AllByRecursion P (items_of t) → (p : Position) (x : Rtx) → read_at p t ≡ stands x → Q p t x
    read_in t all p x e = by_head (head_at p t) refl (sym (read_at_out p t) ∙ e)
      where
        by_head : (o : Option Opening) → head_at p t ≡ o → expression_by p o t (map meaning_of (items_of t)) ≡ stands x → Q p t x
        by_head None is e = absurd (let none : ⊥ = cc in none)
        by_head (Some h) is e =
            let w = then_some (head_of t) (placed p) h is in
            by_case p h w.0 t x w.1 (placed_says p w.0 h w.2) all (reads p h t x e)

    all_items : (o : Tree-F Tree) → AllByRecursion P (inside_at o) → AllByRecursion P (items_at o)
    all_items (Tree-F.List place items) all = all
    all_items _ all = tt

    all_vector : (o : Tree-F Tree) → AllByRecursion P (inside_at o) → AllByRecursion P (vector_at o)
    all_vector (Tree-F.Vector place items) all = all
    all_vector _ all = tt

    layer : (t : Tree) (o : Tree-F Tree) → out-Tree t ≡ o → AllByRecursion P (inside_at o) → P t
    layer t o is all = (
      read_in t (subst (λ (y : Tree-F Tree). AllByRecursion P (items_at y)) (sym is) (all_items o all)),
      elements_in t (subst (λ (y : Tree-F Tree). AllByRecursion P (vector_at y)) (sym is) (all_vector o all)),
    )

    steps : Steps P
    steps = record {
      atom = λ p t. layer (tree.Atom p t) (Tree-F.Atom p t) (out-Atom p t) tt;
      string = λ p t. layer (tree.Str p t) (Tree-F.Str p t) (out-Str p t) tt;
      block = λ p t. layer (tree.Block p t) (Tree-F.Block p t) (out-Block p t) tt;
      list = λ p ts all. layer (tree.List p ts) (Tree-F.List p ts) (out-List p ts) all;
      vector = λ p ts all. layer (tree.Vector p ts) (Tree-F.Vector p ts) (out-Vector p ts) all;
    }

    pub holds_of_each : (t : Tree) (p : Position) (x : Rtx) → read_at p t ≡ stands x → Q p t x
    holds_of_each t = (induction P steps t).0
