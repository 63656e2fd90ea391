-- What an expression is that a tree with a head stands for: one case for each class of codes that is read in its own way.
use Rattle.std.proofs.Common.{◌≡◌, ◌<◌, ℕ, ℤ, List, [], ◌∷◌, map, drop, true, Option, Some, None, refl, sym, ap, ◌∙◌}
use Rattle.std.specs.Prelude.{option_map, option_and_then}
use Rattle.rtx_tree.specs.declared.code.Code.TheVariants.{SymbolRef, Parallel}
use Rattle.rtx_tree.specs.declared.code.Mode.{Mode}
use Rattle.rtx_tree.specs.declared.code.Mode.TheVariants.{Void}
use Rattle.rtx_tree.specs.declared.tree.Rtx.{Rtx}
use Rattle.rtx_tree.specs.Tree.{node_of, reg_of, const_of, named_of}
use Rattle.rtx_tree.specs.Patterns.{label_rtx}
use Rattle.text_words.specs.Words.{fits_i64, is_symbol, number_in}
use Rattle.lisp_read.specs.declared.head.Opening.{Opening}
use Rattle.rtx_tree.specs.declared.class.Class.{Class}
use Rattle.rtx_tree.specs.declared.class.Class.TheVariants as class
use Rattle.lisp_read.specs.declared.position.Position.{Position}
use Rattle.lisp_read.specs.declared.tree.Tree.{Tree}
use Rattle.lisp_read.specs.Leaf.{allowed, register_in, uid_in, word_at, word_with, symbol_with, symbol_at, quoted_name, symbol_of, unstarred}
use Rattle.lisp_read.specs.Positions.{admits_register}
use Rattle.lisp_read.specs.Shape.{atom_of, string_of, items_of, is_nested}
use Rattle.lisp_read.specs.Parsed.{stands, parsed_map}
use Rattle.lisp_read.specs.Expression.{Meaning, meaning_of, elements_of, class_of, list_by, node_by, parallel_by, each_at, parts_of_class}
use Rattle.rtl_print.proofs.Numbers.{if_some, map_some, then_some, number_fits, uid_less}
use Rattle.rtl_print.proofs.Registers.{IsRegister, register_is}
use Rattle.rtl_print.proofs.Parsing.{or_stands, map_stands, tested}

abbrev inside : Tree → List Meaning
inside t = map meaning_of (items_of t)

-- an expression of words
pub data Leaf (p : Position) (h : Opening) (t : Tree) (x : Rtx) : Type 0 where
  register : (r : ℕ) → class_of h ≡ class.Register → IsRegister r → allowed p r ≡ Some r → x ≡ reg_of h.mode r → Leaf p h t x
  number : (n : ℤ) → class_of h ≡ class.Constant → fits_i64 n ≡ true → x ≡ const_of n → Leaf p h t x
  label : (uid : ℕ) → class_of h ≡ class.Label → uid < 4294967296 → x ≡ label_rtx uid → Leaf p h t x
  symbol : (a l : Tree) (more : List Tree) (name : List ℕ) → class_of h ≡ class.Symbol → items_of t ≡ a ∷ l ∷ more → is_nested l ≡ true → is_symbol name ≡ true → x ≡ named_of SymbolRef h.mode name → Leaf p h t x

pub data Reads (p : Position) (h : Opening) (t : Tree) (x : Rtx) : Type 0 where
  leaf : Leaf p h t x → Reads p h t x
  parallel : (a v : Tree) (kids : List Rtx) → class_of h ≡ class.Parallel → items_of t ≡ a ∷ v ∷ [] → elements_of v ≡ stands kids → x ≡ node_of Parallel Void kids → Reads p h t x
  node : (ps : List Position) (kids : List Rtx) → parts_of_class (class_of h) (items_of t) ≡ Some ps → each_at ps (drop 1 (inside t)) ≡ stands kids → x ≡ node_of h.code h.mode kids → Reads p h t x

-- ---- words

word_says : (t : Tree) (c : Class) (p : Position) (m : Mode) (items : List Tree) (x : Rtx) → word_with t c p m items ≡ stands x → (text : List ℕ) × (word_at c p m text ≡ Some x)
word_says t c p m [] x e = cc
word_says t c p m (a ∷ []) x e = cc
word_says t c p m (a ∷ w ∷ more) x e = let says = then_some (atom_of w) (word_at c p m) x (or_stands t (option_and_then (word_at c p m) (atom_of w)) x e) in (says.0, says.2)

abbrev Word : Tree → Class → Position → Opening → Rtx → Type 0
Word t c p h x = word_with t c p h.mode (items_of t) ≡ stands x

read_register : (p : Position) (h : Opening) (t : Tree) (x : Rtx) → class_of h ≡ class.Register → Word t class.Register p h x → Leaf p h t x
read_register p h t x c e =
    let w = word_says t class.Register p h.mode (items_of t) x e in
    let r = map_some (option_and_then (allowed p) (register_in w.0)) (reg_of h.mode) x w.1 in
    let k = then_some (register_in w.0) (allowed p) r.0 r.1 in
    let same = if_some (admits_register p k.0) k.0 r.0 k.2 in
    Leaf.register k.0 c (register_is w.0 k.0 k.1) (k.2 ∙ ap (λ (n : ℕ). Some n) (sym same.1)) (sym r.2 ∙ ap (reg_of h.mode) (sym same.1))

read_number : (p : Position) (h : Opening) (t : Tree) (x : Rtx) → class_of h ≡ class.Constant → Word t class.Constant p h x → Leaf p h t x
read_number p h t x c e =
    let w = word_says t class.Constant p h.mode (items_of t) x e in
    let n = map_some (number_in w.0) const_of x w.1 in
    Leaf.number n.0 c (number_fits w.0 n.0 n.1) (sym n.2)

read_label : (p : Position) (h : Opening) (t : Tree) (x : Rtx) → class_of h ≡ class.Label → Word t class.Label p h x → Leaf p h t x
read_label p h t x c e =
    let w = word_says t class.Label p h.mode (items_of t) x e in
    let n = map_some (uid_in w.0) label_rtx x w.1 in
    Leaf.label n.0 c (uid_less w.0 n.0 n.1) (sym n.2)

-- ---- symbols

quoted_says : (items : List Tree) (name : List ℕ) → quoted_name items ≡ Some name → is_symbol name ≡ true
quoted_says [] name e = cc
quoted_says (s ∷ t ∷ more) name e = cc
quoted_says (s ∷ []) name e =
    let text = then_some (string_of s) symbol_of name e in
    let says = if_some (is_symbol (unstarred text.0)) (unstarred text.0) name text.2 in
    sym (ap is_symbol says.1) ∙ says.0

symbol_says : (t : Tree) (m : Mode) (items : List Tree) (x : Rtx) → symbol_with t m items ≡ stands x →
    (a : Tree) × (l : Tree) × (more : List Tree) × (name : List ℕ) × (items ≡ a ∷ l ∷ more) × (is_nested l ≡ true) × (is_symbol name ≡ true) × (x ≡ named_of SymbolRef m name)
symbol_says t m [] x e = cc
symbol_says t m (a ∷ []) x e = cc
symbol_says t m (a ∷ l ∷ more) x e =
    let inner = tested (is_nested l) t (symbol_at m l) x e in
    let name = map_some (quoted_name (items_of l)) (named_of SymbolRef m) x (or_stands l (option_map (named_of SymbolRef m) (quoted_name (items_of l))) x inner.1) in
    (a, l, more, name.0, refl, inner.0, quoted_says (items_of l) name.0 name.1, sym name.2)

-- ---- what holds others

parallel_says : (t : Tree) (items : List Tree) (x : Rtx) → parallel_by t items (map meaning_of items) ≡ stands x →
    (a : Tree) × (v : Tree) × (kids : List Rtx) × (items ≡ a ∷ v ∷ []) × (elements_of v ≡ stands kids) × (x ≡ node_of Parallel Void kids)
parallel_says t [] x e = cc
parallel_says t (a ∷ []) x e = cc
parallel_says t (a ∷ v ∷ w ∷ more) x e = cc
parallel_says t (a ∷ v ∷ []) x e =
    let inner = tested (is_nested v) t (parsed_map (node_of Parallel Void) (elements_of v)) x e in
    let kids = map_stands (node_of Parallel Void) (elements_of v) x inner.1 in
    (a, v, kids.0, refl, kids.1, sym kids.2)

node_says : (p : Position) (h : Opening) (t : Tree) (x : Rtx) (o : Option (List Position)) → parts_of_class (class_of h) (items_of t) ≡ o → node_by t h o (inside t) ≡ stands x → Reads p h t x
node_says p h t x None c e = cc
node_says p h t x (Some ps) c e =
    let kids = map_stands (node_of h.code h.mode) (each_at ps (drop 1 (inside t))) x e in
    Reads.node ps kids.0 c kids.1 (sym kids.2)

abbrev List_by : Class → Position → Opening → Tree → Rtx → Type 0
List_by c p h t x = list_by c p h t (inside t) ≡ stands x

by_class : (p : Position) (h : Opening) (t : Tree) (x : Rtx) (c : Class) → class_of h ≡ c → List_by c p h t x → Reads p h t x
by_class p h t x class.Register c e = Reads.leaf (read_register p h t x c (ap (λ (k : Class). word_with t k p h.mode (items_of t)) (sym c) ∙ e))
by_class p h t x class.Constant c e = Reads.leaf (read_number p h t x c (ap (λ (k : Class). word_with t k p h.mode (items_of t)) (sym c) ∙ e))
by_class p h t x class.Label c e = Reads.leaf (read_label p h t x c (ap (λ (k : Class). word_with t k p h.mode (items_of t)) (sym c) ∙ e))
by_class p h t x class.Symbol c e = let s = symbol_says t h.mode (items_of t) x e in Reads.leaf (Leaf.symbol s.0 s.1 s.2 s.3 c s.4 s.5 s.6 s.7)
by_class p h t x class.Parallel c e = let s = parallel_says t (items_of t) x e in Reads.parallel s.0 s.1 s.2 c s.3 s.4 s.5
by_class p h t x k c e = node_says p h t x (parts_of_class k (items_of t)) (ap (λ (j : Class). parts_of_class j (items_of t)) c) e

pub reads : (p : Position) (h : Opening) (t : Tree) (x : Rtx) → list_by (class_of h) p h t (inside t) ≡ stands x → Reads p h t x
reads p h t x e = by_class p h t x (class_of h) refl e
