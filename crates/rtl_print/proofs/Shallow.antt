-- An expression's text goes no deeper than the tree that stands for it.
use Rattle.std.proofs.Common.{◌≡◌, ◌≤◌, ℕ, suc, max, pos, List, [], ◌∷◌, ◌++◌, map, true, Some, codes, refl, sym, ap, subst, ◌∙◌, arith}
use Rattle.rtx_tree.specs.declared.code.Code.TheVariants as code
use Rattle.rtx_tree.specs.declared.code.Mode.TheVariants as mode
use Rattle.rtx_tree.specs.declared.tree.Rtx.{Rtx}
use Rattle.rtx_tree.specs.Tree.{node_of}
use Rattle.lisp_read.specs.declared.class.Bracket.TheVariants.{Round, Square}
use Rattle.rtx_tree.specs.declared.class.Class.{Class}
use Rattle.rtx_tree.specs.declared.class.Class.TheVariants as class
use Rattle.lisp_read.specs.declared.head.Opening.{Opening}
use Rattle.lisp_read.specs.declared.position.Position.{Position}
use Rattle.lisp_read.specs.declared.tree.Tree.{Tree, out-Tree}
use Rattle.lisp_read.specs.declared.tree.Tree.TheOpen.{Tree-F}
use Rattle.lisp_read.specs.declared.tree.Tree.TheFolds.{fold_out-Tree, map-Tree}
use Rattle.lisp_read.specs.Expression.{class_of, read_at, positions_of, parts_of_class}
use Rattle.lisp_read.specs.Parsed.{stands}
use Rattle.lisp_read.specs.Shape.{items_at, items_of, vector_at, vector_of, is_nested_at, is_nested, is_vector_at, is_vector}
use Rattle.tree_print.specs.Print.{nowhere, depth_step, depth_of, greatest}
use Rattle.tree_print.proofs.Printed.{depth-nested}
use Rattle.rtl_print.specs.Print.{head_text, starred}
use Rattle.rtl_print.proofs.Induction.{Holds, EachAt, Elements, holds_of_each}
use Rattle.rtl_print.proofs.Positions.{parts_positions}
use Rattle.rtl_print.proofs.ReadCases.{Leaf}
use Rattle.rtl_print.proofs.Same.{out-Atom, out-Str}
use Rattle.rtl_print.proofs.Words.{label_written}
use Rattle.rtl_print.proofs.Written.{atom, string, list, vector, written, written_of, label_tree, parts_by}

-- ---- depths of trees

depth_out : (t : Tree) → depth_of t ≡ depth_step (map-Tree Tree ℕ depth_of (out-Tree t))
unfolding depth_of
depth_out t = fold_out-Tree ℕ depth_step t

pub atom_depth : (text : List ℕ) → depth_of (atom text) ≡ 0
atom_depth text = depth_out (atom text) ∙ ap (λ (o : Tree-F Tree). depth_step (map-Tree Tree ℕ depth_of o)) (out-Atom nowhere text)

pub string_depth : (text : List ℕ) → depth_of (string text) ≡ 0
string_depth text = depth_out (string text) ∙ ap (λ (o : Tree-F Tree). depth_step (map-Tree Tree ℕ depth_of o)) (out-Str nowhere text)

abbrev pub deepest : List Tree → ℕ
deepest ts = greatest (map depth_of ts)

pub list_depth : (ts : List Tree) → depth_of (list ts) ≡ suc (deepest ts)
list_depth ts = depth-nested Round nowhere ts

pub vector_depth : (ts : List Tree) → depth_of (vector ts) ≡ suc (deepest ts)
vector_depth ts = depth-nested Square nowhere ts

-- what holds trees goes one deeper than these
pub items_depth : (t a : Tree) (ts : List Tree) → items_of t ≡ a ∷ ts → depth_of t ≡ suc (deepest (a ∷ ts))
items_depth t a ts is = depth_out t ∙ by (out-Tree t) is
  where
    by : (o : Tree-F Tree) → items_at o ≡ a ∷ ts → depth_step (map-Tree Tree ℕ depth_of o) ≡ suc (deepest (a ∷ ts))
    by (Tree-F.List p items) e = ap (λ (us : List Tree). suc (deepest us)) e
    by _ e = cc

pub is_vector_depth : (t : Tree) → is_vector t ≡ true → depth_of t ≡ suc (deepest (vector_of t))
is_vector_depth t is = depth_out t ∙ by (out-Tree t) is
  where
    by : (o : Tree-F Tree) → is_vector_at o ≡ true → depth_step (map-Tree Tree ℕ depth_of o) ≡ suc (deepest (vector_at o))
    by (Tree-F.Vector p items) e = refl
    by _ e = cc

pub nested_depth : (t : Tree) → is_nested t ≡ true → 1 ≤ depth_of t
nested_depth t is = subst (λ (n : ℕ). 1 ≤ n) (sym (depth_out t)) (by (out-Tree t) is)
  where
    by : (o : Tree-F Tree) → is_nested_at o ≡ true → 1 ≤ depth_step (map-Tree Tree ℕ depth_of o)
    by (Tree-F.List p items) e = omega arith
    by (Tree-F.Vector p items) e = omega arith
    by _ e = cc

-- no tree of these goes deeper
abbrev pub Within : ℕ → List Tree → Type 0
Within most ts = deepest ts ≤ most

most_of : (a b most : ℕ) → a ≤ most → b ≤ most → max a b ≤ most
most_of a b most first second = grind (arith, first, second)

pub first_within : (most : ℕ) (t : Tree) (ts : List Tree) → depth_of t ≤ most → Within most ts → Within most (t ∷ ts)
first_within most t ts first rest = most_of (depth_of t) (deepest ts) most first rest

pub atom_within : (most : ℕ) (text : List ℕ) (ts : List Tree) → Within most ts → Within most (atom text ∷ ts)
atom_within most text ts rest = first_within most (atom text) ts (omega (arith, atom_depth text)) rest

pub left_less : (a b : ℕ) → a ≤ max a b
left_less a b = grind arith

pub right_less : (a b : ℕ) → b ≤ max a b
right_less a b = grind arith

-- a list of such trees goes no deeper than what holds as deep ones
pub list_within : (us : List Tree) (t a : Tree) (ts : List Tree) → items_of t ≡ a ∷ ts → Within (deepest ts) us → depth_of (list us) ≤ depth_of t
list_within us t a ts is low =
    let whole : depth_of t ≡ suc (deepest (a ∷ ts)) = items_depth t a ts is in
    let more : deepest ts ≤ deepest (a ∷ ts) = right_less (depth_of a) (deepest ts) in
    let here : depth_of (list us) ≡ suc (deepest us) = list_depth us in
    omega (arith, whole, more, here, low)

-- ---- expressions

abbrev Q : Position → Tree → Rtx → Type 0
Q p t x = depth_of (written x) ≤ depth_of t

word_within : (t a : Tree) (ts : List Tree) (w v : List ℕ) (x : Rtx) → items_of t ≡ a ∷ ts → written x ≡ list (atom w ∷ atom v ∷ []) → depth_of (written x) ≤ depth_of t
word_within t a ts w v x is e =
    subst (λ (u : Tree). depth_of u ≤ depth_of t) (sym e)
    (list_within (atom w ∷ atom v ∷ []) t a ts is (atom_within (deepest ts) w (atom v ∷ []) (atom_within (deepest ts) v [] (omega arith))))

leaf : (p : Position) (h : Opening) (t a : Tree) (ts : List Tree) (x : Rtx) → items_of t ≡ a ∷ ts → Leaf p h t x → Q p t x
leaf p h t a ts x is (Leaf.register r c at fits same) =
    word_within t a ts _ _ x is (ap written same ∙ written_of (record { code = code.Reg; mode = h.mode; number = pos r; name = [] }) [])
leaf p h t a ts x is (Leaf.number n c fits same) =
    word_within t a ts _ _ x is (ap written same ∙ written_of (record { code = code.ConstInt; mode = mode.Void; number = n; name = [] }) [])
leaf p h t a ts x is (Leaf.label uid c fits same) = word_within t a ts _ _ x is (ap written same ∙ label_written uid)
leaf p h t a ts x is (Leaf.symbol b l more name c items inner symbol same) =
    let here : depth_of (list (string (starred name) ∷ [])) ≤ depth_of l =
    omega (arith, list_depth (string (starred name) ∷ []), most_of (depth_of (string (starred name))) 0 0 (omega (arith, string_depth (starred name))) (omega arith), nested_depth l inner) in
    subst (λ (u : Tree). depth_of u ≤ depth_of t) (sym (ap written same ∙ written_of (record { code = code.SymbolRef; mode = h.mode; number = pos 0; name = name }) []))
    (list_within (atom (head_text code.SymbolRef h.mode) ∷ list (string (starred name) ∷ []) ∷ []) t b (l ∷ more) items
    (atom_within (deepest (l ∷ more)) (head_text code.SymbolRef h.mode) (list (string (starred name) ∷ []) ∷ [])
    (first_within (deepest (l ∷ more)) (list (string (starred name) ∷ [])) [] (omega (arith, here, left_less (depth_of l) (deepest more))) (omega arith))))

elements : (ts : List Tree) (kids : List Rtx) → Elements Q ts kids → Within (deepest ts) (map written kids)
elements [] [] all = omega arith
elements (t ∷ ts) (x ∷ xs) all =
    first_within (deepest (t ∷ ts)) (written x) (map written xs) (omega (arith, all.1, left_less (depth_of t) (deepest ts))) (omega (arith, elements ts xs all.2, right_less (depth_of t) (deepest ts)))
elements [] (x ∷ xs) all = absurd all
elements (t ∷ ts) [] all = absurd all

parallel : (h : Opening) (t a v : Tree) (kids : List Rtx) → items_of t ≡ a ∷ v ∷ [] → is_vector v ≡ true → Elements Q (vector_of v) kids → depth_of (written (node_of code.Parallel mode.Void kids)) ≤ depth_of t
parallel h t a v kids items is all =
    let low : deepest (map written kids) ≤ deepest (vector_of v) = elements (vector_of v) kids all in
    let here : depth_of (vector (map written kids)) ≤ depth_of v = omega (arith, vector_depth (map written kids), is_vector_depth v is, low) in
    subst (λ (u : Tree). depth_of u ≤ depth_of t) (sym (written_of (record { code = code.Parallel; mode = mode.Void; number = pos 0; name = [] }) kids))
    (list_within (atom (head_text code.Parallel mode.Void) ∷ vector (map written kids) ∷ []) t a (v ∷ []) items
    (atom_within (deepest (v ∷ [])) (head_text code.Parallel mode.Void) (vector (map written kids) ∷ [])
    (first_within (deepest (v ∷ [])) (vector (map written kids)) [] (omega (arith, here, left_less (depth_of v) 0)) (omega arith))))

each : (ps : List Position) (ts : List Tree) (kids : List Rtx) → EachAt Q ps ts kids → Within (deepest ts) (map written kids)
each [] ts [] all = omega arith
each (p ∷ ps) (t ∷ ts) (x ∷ xs) all =
    first_within (deepest (t ∷ ts)) (written x) (map written xs) (omega (arith, all.1, left_less (depth_of t) (deepest ts))) (omega (arith, each ps ts xs all.2, right_less (depth_of t) (deepest ts)))
each [] ts (x ∷ xs) all = absurd all
each (p ∷ ps) [] kids all = absurd all
each (p ∷ ps) (t ∷ ts) [] all = absurd all

behind : (most : ℕ) (text : List ℕ) (us : List Tree) → Within most us → Within most (us ++ atom text ∷ [])
behind most text [] low = atom_within most text [] (omega arith)
behind most text (u ∷ us) low =
    first_within most u (us ++ atom text ∷ []) (omega (arith, low, left_less (depth_of u) (deepest us))) (behind most text us (omega (arith, low, right_less (depth_of u) (deepest us))))

by_class : (c : Class) (items : List Tree) (ps : List Position) (most : ℕ) (kids labels : List Tree) → positions_of c items ≡ Some ps → Within most kids → Within most (parts_by c (pos 0) [] kids labels)
by_class class.Register items ps most kids labels e low = absurd (let none : ⊥ = cc in none)
by_class class.Constant items ps most kids labels e low = absurd (let none : ⊥ = cc in none)
by_class class.Symbol items ps most kids labels e low = absurd (let none : ⊥ = cc in none)
by_class class.Label items ps most kids labels e low = absurd (let none : ⊥ = cc in none)
by_class class.Parallel items ps most kids labels e low = absurd (let none : ⊥ = cc in none)
by_class class.Lowpart items ps most kids labels e low = behind most (codes "0") kids low
by_class _ items ps most kids labels e low = low

node : (h : Opening) (t a : Tree) (ts : List Tree) (ps : List Position) (kids : List Rtx) → items_of t ≡ a ∷ ts → parts_of_class (class_of h) (a ∷ ts) ≡ Some ps → EachAt Q ps ts kids → depth_of (written (node_of h.code h.mode kids)) ≤ depth_of t
node h t a ts ps kids items parts all =
    subst (λ (u : Tree). depth_of u ≤ depth_of t) (sym (written_of (record { code = h.code; mode = h.mode; number = pos 0; name = [] }) kids))
    (list_within _ t a ts items
    (atom_within (deepest ts) (head_text h.code h.mode) _ (by_class (class_of h) (a ∷ ts) ps (deepest ts) (map written kids) (map label_tree kids) (parts_positions (class_of h) (a ∷ ts) ps parts).0 (each ps ts kids all))))

holds : Holds Q
holds = record {
  leaf = λ p h t a ts x placed items l. leaf p h t a ts x items l;
  parallel = λ p h t a v kids placed c items is all. parallel h t a v kids items is all;
  node = λ p h t a ts ps kids placed items parts all. node h t a ts ps kids items parts all;
}

pub shallow : (p : Position) (t : Tree) (x : Rtx) → read_at p t ≡ stands x → depth_of (written x) ≤ depth_of t
shallow p t x e = holds_of_each Q holds t p x e
