-- Expressions that hold others are read back where these are.
use Rattle.std.proofs.Common.{◌≡◌, suc, List, [], ◌∷◌, ◌++◌, map, length, Bool, true, Option, Some, None, refl, sym, ap, subst, ◌∙◌}
use Rattle.std.specs.List.{list_all}
use Rattle.rtx_tree.specs.declared.code.Code.{Code}
use Rattle.rtx_tree.specs.declared.code.Code.TheVariants as code
use Rattle.rtx_tree.specs.declared.code.Mode.{Mode}
use Rattle.rtx_tree.specs.declared.tree.Rtx.{Rtx, out-Rtx, out-roll-Rtx}
use Rattle.rtx_tree.specs.declared.tree.Rtx.TheOpen.{Rtx-F}
use Rattle.rtx_tree.specs.Tree.{node_of}
use Rattle.lisp_read.specs.declared.head.Opening.{Opening}
use Rattle.rtx_tree.specs.declared.class.Class.{Class}
use Rattle.lisp_read.specs.declared.position.Position.{Position}
use Rattle.lisp_read.specs.declared.tree.Tree.{Tree}
use Rattle.rtx_tree.specs.Code.{class_of_code}
use Rattle.lisp_read.specs.Shape.{items_of, is_nested}
use Rattle.lisp_read.specs.Parsed.{stands}
use Rattle.lisp_read.specs.Expression.{meaning_of, class_of, placed, head_of, head_at, head_is, read_at, expression_by, each_at}
use Rattle.lisp_read.proofs.Meanings.{read_at_out}
use Rattle.rtl_print.specs.Print.{head_text}
use Rattle.rtl_print.proofs.Induction.{EachAt}
use Rattle.rtl_print.proofs.Modes.{placed_code}
use Rattle.rtl_print.proofs.Numbers.{then_some}
use Rattle.rtl_print.proofs.Opened.{opened, head_of_opened}
use Rattle.rtl_print.proofs.ReadCases.{Leaf, Reads, reads}
use Rattle.rtl_print.proofs.Same.{Same, AllSame}
use Rattle.rtl_print.proofs.Words.{Back}
use Rattle.rtl_print.proofs.Written.{written, written_out, label_tree, parts_by}

-- ---- the class of what is read is that of the head

node_class : (c : Code) (m : Mode) (kids : List Rtx) → class_of_code (out-Rtx (node_of c m kids)).code ≡ class_of_code c
node_class c m kids = ap (λ (o : Rtx-F Rtx). class_of_code o.code) (out-roll-Rtx _)

leaf_class : (p : Position) (h : Opening) (t : Tree) (x : Rtx) → Leaf p h t x → class_of_code (out-Rtx x).code ≡ class_of h
leaf_class p h t x (Leaf.register r c is fits same) = ap (λ (y : Rtx). class_of_code (out-Rtx y).code) same ∙ (ap (λ (o : Rtx-F Rtx). class_of_code o.code) (out-roll-Rtx _) ∙ sym c)
leaf_class p h t x (Leaf.number n c fits same) = ap (λ (y : Rtx). class_of_code (out-Rtx y).code) same ∙ (ap (λ (o : Rtx-F Rtx). class_of_code o.code) (out-roll-Rtx _) ∙ sym c)
leaf_class p h t x (Leaf.label uid c fits same) = ap (λ (y : Rtx). class_of_code (out-Rtx y).code) same ∙ (ap (λ (o : Rtx-F Rtx). class_of_code o.code) (out-roll-Rtx _) ∙ sym c)
leaf_class p h t x (Leaf.symbol a l more name c items nested is same) = ap (λ (y : Rtx). class_of_code (out-Rtx y).code) same ∙ (ap (λ (o : Rtx-F Rtx). class_of_code o.code) (out-roll-Rtx _) ∙ sym c)

case_class : (p : Position) (h : Opening) (t : Tree) (x : Rtx) → Reads p h t x → class_of_code (out-Rtx x).code ≡ class_of h
case_class p h t x (Reads.leaf l) = leaf_class p h t x l
case_class p h t x (Reads.parallel a v kids c is e same) = ap (λ (y : Rtx). class_of_code (out-Rtx y).code) same ∙ (node_class code.Parallel _ kids ∙ sym c)
case_class p h t x (Reads.node ps kids parts e same) = ap (λ (y : Rtx). class_of_code (out-Rtx y).code) same ∙ node_class h.code h.mode kids

-- a tree that stands for an expression begins as it does
pub head_of_read : (test : Class → Bool) (p : Position) (t : Tree) (x : Rtx) → read_at p t ≡ stands x → head_is test (head_of t) ≡ test (class_of_code (out-Rtx x).code)
head_of_read test p t x e = by_head (head_at p t) refl (sym (read_at_out p t) ∙ e)
  where
    by_head : (o : Option Opening) → head_at p t ≡ o → expression_by p o t (map meaning_of (items_of t)) ≡ stands x → head_is test (head_of t) ≡ test (class_of_code (out-Rtx x).code)
    by_head None is e = cc
    by_head (Some h) is e =
        let w = then_some (head_of t) (placed p) h is in
        ap (head_is test) w.1 ∙ (ap test (ap class_of_code (placed_code p w.0 h w.2)) ∙ ap test (sym (case_class p h t x (reads p h t x e))))

pub head_of_written : (test : Class → Bool) (t : Tree) (x : Rtx) → Same t (written x) → head_is test (head_of t) ≡ test (class_of_code (out-Rtx x).code)
head_of_written test t x same =
    let o : Rtx-F Rtx = out-Rtx x in
    let ps : List Tree = parts_by (class_of_code o.code) o.number o.name (map written o.kids) (map label_tree o.kids) in
    ap (head_is test) (head_of_opened t o.code o.mode ps (opened t (head_text o.code o.mode) ps (subst (Same t) (written_out x) same)))

pub same_head : (test : Class → Bool) (p : Position) (t u : Tree) (x : Rtx) → read_at p t ≡ stands x → Same u (written x) → head_is test (head_of u) ≡ head_is test (head_of t)
same_head test p t u x e same = head_of_written test u x same ∙ sym (head_of_read test p t x e)

pub nested_written : (t : Tree) (x : Rtx) → Same t (written x) → is_nested t ≡ true
nested_written t x same =
    let o : Rtx-F Rtx = out-Rtx x in
    let ps : List Tree = parts_by (class_of_code o.code) o.number o.name (map written o.kids) (map label_tree o.kids) in
    (opened t (head_text o.code o.mode) ps (subst (Same t) (written_out x) same)).nested

-- ---- the trees that some expressions write

abbrev Q : Position → Tree → Rtx → Type 0
Q p t x = Back p x

pub all_nested : (ts : List Tree) (xs : List Rtx) → AllSame ts (map written xs) → list_all is_nested ts ≡ true
all_nested [] [] same = refl
all_nested (t ∷ ts) (x ∷ xs) same = rw (nested_written t x same.0) (all_nested ts xs same.1)
all_nested [] (x ∷ xs) same = absurd same
all_nested (t ∷ ts) [] same = absurd same

pub same_length : (ts : List Tree) (xs : List Rtx) → AllSame ts (map written xs) → length ts ≡ length xs
same_length [] [] same = refl
same_length (t ∷ ts) (x ∷ xs) same = ap suc (same_length ts xs same.1)
same_length [] (x ∷ xs) same = absurd same
same_length (t ∷ ts) [] same = absurd same

pub kids_length : (ps : List Position) (ts : List Tree) (kids : List Rtx) → EachAt Q ps ts kids → length kids ≡ length ps
kids_length [] ts [] each = refl
kids_length (p ∷ ps) (t ∷ ts) (x ∷ xs) each = ap suc (kids_length ps ts xs each.2)
kids_length [] ts (x ∷ xs) each = absurd each
kids_length (p ∷ ps) [] kids each = absurd each
kids_length (p ∷ ps) (t ∷ ts) [] each = absurd each

-- they are read as these, whatever stands behind them
pub each_again : (ps : List Position) (ts us : List Tree) (kids : List Rtx) (more : List Tree) → EachAt Q ps ts kids → AllSame us (map written kids) → each_at ps (map meaning_of (us ++ more)) ≡ stands kids
unfolding Back
each_again [] ts [] [] more each same = refl
each_again (p ∷ ps) (t ∷ ts) (u ∷ us) (x ∷ xs) more each same = rw (each.1 u same.0) (rw (each_again ps ts us xs more each.2 same.1) refl)
each_again [] ts us (x ∷ xs) more each same = absurd each
each_again [] ts (u ∷ us) [] more each same = absurd same
each_again (p ∷ ps) [] us kids more each same = absurd each
each_again (p ∷ ps) (t ∷ ts) us [] more each same = absurd each
each_again (p ∷ ps) (t ∷ ts) [] (x ∷ xs) more each same = absurd same
