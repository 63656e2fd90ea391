-- Registers, constants, labels and symbols are read back.
use Rattle.std.proofs.Common.{◌≡◌, ℕ, pos, List, [], ◌∷◌, map, Bool, true, false, ◌==◌, Option, Some, cond, refl, sym, ap, subst, ◌∙◌}
use Rattle.std.specs.Prelude.{option_map, option_and_then}
use Rattle.std.specs.Fmt.{decimal, signed_decimal}
use Rattle.rtx_tree.specs.declared.code.Code.{Code}
use Rattle.rtx_tree.specs.declared.code.Code.TheVariants as code
use Rattle.rtx_tree.specs.declared.code.Mode.{Mode}
use Rattle.rtx_tree.specs.declared.code.Mode.TheVariants as mode
use Rattle.rtx_tree.specs.declared.tree.Rtx.{Rtx, out-roll-Rtx}
use Rattle.rtx_tree.specs.declared.tree.Rtx.TheOpen.{Rtx-F}
use Rattle.rtx_tree.specs.Tree.{reg_of, const_of, named_of}
use Rattle.rtx_tree.specs.Patterns.{label_rtx}
use Rattle.text_words.specs.Words.{is_symbol}
use Rattle.lisp_read.specs.declared.head.Opening.{Opening}
use Rattle.rtx_tree.specs.declared.class.Class.{Class}
use Rattle.rtx_tree.specs.declared.class.Class.TheVariants as class
use Rattle.lisp_read.specs.declared.position.Position.{Position}
use Rattle.lisp_read.specs.declared.tree.Tree.{Tree}
use Rattle.rtx_tree.specs.Code.{class_of_code}
use Rattle.lisp_read.specs.Leaf.{allowed, word_at, word_with, symbol_with, quoted_name, symbol_of, unstarred}
use Rattle.lisp_read.specs.Shape.{atom_at, items_at, items_of, string_at, is_nested_at, is_nested}
use Rattle.lisp_read.specs.Parsed.{stands, or_outside}
use Rattle.lisp_read.specs.Expression.{Meaning, meaning_of, class_of, placed, read_at, list_by}
use Rattle.tree_print.specs.Print.{nowhere}
use Rattle.rtl_print.specs.Print.{head_text, starred}
use Rattle.rtl_print.proofs.Heads.{head_with}
use Rattle.rtl_print.proofs.Modes.{Placed, placed_again, placed_bare}
use Rattle.rtl_print.proofs.Numbers.{number_again, uid_again}
use Rattle.rtl_print.proofs.Opened.{Opened, opened, read_opened}
use Rattle.rtl_print.proofs.ReadCases.{Leaf}
use Rattle.rtl_print.proofs.Registers.{register_again}
use Rattle.rtl_print.proofs.Same.{Same, AllSame, IsList, IsStr, as_list, as_atom, as_string}
use Rattle.rtl_print.proofs.Written.{atom, list, string, written, written_of}
use Rattle.rtx_tree.specs.Registers.{register_text}

-- the tree that the expression's text writes, at any places, is read as the expression
unfoldable pub Back : Position → Rtx → Type 0
Back p x = (t : Tree) → Same t (written x) → read_at p t ≡ stands x

-- ---- the code of a class of one code

pub register_code : (c : Code) → class_of_code c ≡ class.Register → c ≡ code.Reg
register_code code.Reg e = refl
register_code _ e = cc

number_code : (c : Code) → class_of_code c ≡ class.Constant → c ≡ code.ConstInt
number_code code.ConstInt e = refl
number_code _ e = cc

label_code : (c : Code) → class_of_code c ≡ class.Label → c ≡ code.LabelRef
label_code code.LabelRef e = refl
label_code _ e = cc

symbol_code : (c : Code) → class_of_code c ≡ class.Symbol → c ≡ code.SymbolRef
symbol_code code.SymbolRef e = refl
symbol_code _ e = cc

-- a head that may stand at a position may stand there by its code and its mode
pub placed_as : (p : Position) (h : Opening) (c : Code) (m : Mode) → Placed p h → h.code ≡ c → h.mode ≡ m → placed p (head_with c m) ≡ Some h
placed_as p h c m s is_code is_mode = ap (λ (k : Code). placed p (head_with k m)) (sym is_code) ∙ (ap (λ (k : Mode). placed p (head_with h.code k)) (sym is_mode) ∙ placed_again p h s)

-- ---- words

word_again : (t : Tree) (c : Class) (p : Position) (m : Mode) (head : Tree) (parts : List Tree) (text : List ℕ) (x : Rtx) →
    AllSame parts (atom text ∷ []) → word_at c p m text ≡ Some x → word_with t c p m (head ∷ parts) ≡ stands x
word_again t c p m head [] text x same e = absurd same
word_again t c p m head (w ∷ more) text x same e =
    ap (λ (o : Option (List ℕ)). or_outside t (option_and_then (word_at c p m) o)) (ap atom_at (as_atom w nowhere text same.0).is) ∙ ap (or_outside t) e

-- a class of words: its lists are read as words
abbrev IsWordClass : Class → Type 0
IsWordClass c = (p : Position) (h : Opening) (t : Tree) (inside : List Meaning) → list_by c p h t inside ≡ word_with t (class_of h) p h.mode (items_of t)

word_back : (k : Class) → IsWordClass k → (p : Position) (h : Opening) (c : Code) (m : Mode) (text : List ℕ) (x : Rtx) → Placed p h → class_of h ≡ k → h.code ≡ c → h.mode ≡ m →
    word_at k p m text ≡ Some x → written x ≡ list (atom (head_text c m) ∷ atom text ∷ []) → Back p x
unfolding Back
word_back k words p h c m text x s is_class is_code is_mode e w t same =
    let o : Opened t (head_text c m) (atom text ∷ []) = opened t (head_text c m) (atom text ∷ []) (subst (Same t) w same) in
    let inner : List Meaning = map meaning_of (o.head ∷ o.parts) in
    read_opened p t c m (atom text ∷ []) o h (placed_as p h c m s is_code is_mode)
    ∙ (ap (λ (j : Class). list_by j p h t inner) is_class
    ∙ (words p h t inner
    ∙ (ap (λ (j : Class). word_with t j p h.mode (items_of t)) is_class
    ∙ (ap (λ (j : Mode). word_with t k p j (items_of t)) is_mode
    ∙ (ap (word_with t k p m) o.items
    ∙ word_again t k p m o.head o.parts text x o.same e)))))

-- ---- symbols

unstarred_again : (name : List ℕ) → unstarred (starred name) ≡ name
unstarred_again [] = refl
unstarred_again (b ∷ bs) = by_star (b == 42) refl
  where
    by_star : (s : Bool) → (b == 42) ≡ s → unstarred (cond s (42 ∷ b ∷ bs) (b ∷ bs)) ≡ b ∷ bs
    by_star true e = refl
    by_star false e = rw e refl

quoted_again : (items : List Tree) (name : List ℕ) → is_symbol name ≡ true → AllSame items (string (starred name) ∷ []) → quoted_name items ≡ Some name
quoted_again [] name is same = absurd same
quoted_again (s ∷ t ∷ more) name is same = absurd same.1
quoted_again (s ∷ []) name is same =
    let q : IsStr s (starred name) = as_string s nowhere (starred name) same.0 in
    ap (option_and_then symbol_of) (ap string_at q.is) ∙ rw (unstarred_again name) (rw is refl)

symbol_again : (t : Tree) (m : Mode) (head : Tree) (parts : List Tree) (name : List ℕ) → is_symbol name ≡ true → AllSame parts (list (string (starred name) ∷ []) ∷ []) →
    symbol_with t m (head ∷ parts) ≡ stands (named_of code.SymbolRef m name)
symbol_again t m head [] name is same = absurd same
symbol_again t m head (l ∷ more) name is same =
    let i : IsList l (string (starred name) ∷ []) = as_list l nowhere (string (starred name) ∷ []) same.0 in
    let nested : is_nested l ≡ true = ap is_nested_at i.is in
    let quoted : quoted_name (items_of l) ≡ Some name = ap quoted_name (ap items_at i.is) ∙ quoted_again i.items name is i.same in
    rw nested (ap (λ (o : Option (List ℕ)). or_outside l (option_map (named_of code.SymbolRef m) o)) quoted)

symbol_back : (p : Position) (h : Opening) (name : List ℕ) → Placed p h → class_of h ≡ class.Symbol → is_symbol name ≡ true → Back p (named_of code.SymbolRef h.mode name)
unfolding Back
symbol_back p h name s is_class is t same =
    let m : Mode = h.mode in
    let ps : List Tree = list (string (starred name) ∷ []) ∷ [] in
    let o : Opened t (head_text code.SymbolRef m) ps = opened t (head_text code.SymbolRef m) ps (subst (Same t) (written_of (record { code = code.SymbolRef; mode = m; number = pos 0; name = name }) []) same) in
    read_opened p t code.SymbolRef m ps o h (placed_as p h code.SymbolRef m s (symbol_code h.code is_class) refl)
    ∙ (ap (λ (j : Class). list_by j p h t (map meaning_of (o.head ∷ o.parts))) is_class
    ∙ (ap (symbol_with t m) o.items ∙ symbol_again t m o.head o.parts name is o.same))

-- ---- all of them

pub label_written : (uid : ℕ) → written (label_rtx uid) ≡ list (atom (head_text code.LabelRef mode.Void) ∷ atom (decimal uid) ∷ [])
label_written uid =
    written_of (record { code = code.LabelRef; mode = mode.Void; number = pos 0; name = [] }) (const_of (pos uid) ∷ [])
    ∙ ap (λ (o : Rtx-F Rtx). list (atom (head_text code.LabelRef mode.Void) ∷ atom (signed_decimal o.number) ∷ [])) (out-roll-Rtx _)

pub leaf_back : (p : Position) (h : Opening) (t : Tree) (x : Rtx) → Placed p h → Leaf p h t x → Back p x
leaf_back p h t x s (Leaf.register r c is fits same) =
    subst (Back p) (sym same)
    (word_back class.Register (λ _ _ _ _. refl) p h code.Reg h.mode (register_text r) (reg_of h.mode r) s c (register_code h.code c) refl
    (ap (λ (o : Option ℕ). option_map (reg_of h.mode) (option_and_then (allowed p) o)) (register_again r is) ∙ ap (option_map (reg_of h.mode)) fits)
    (written_of (record { code = code.Reg; mode = h.mode; number = pos r; name = [] }) []))
leaf_back p h t x s (Leaf.number n c fits same) =
    subst (Back p) (sym same)
    (word_back class.Constant (λ _ _ _ _. refl) p h code.ConstInt mode.Void (signed_decimal n) (const_of n) s c (number_code h.code c) (placed_bare p h (rw c refl) s)
    (ap (option_map const_of) (number_again n fits))
    (written_of (record { code = code.ConstInt; mode = mode.Void; number = n; name = [] }) []))
leaf_back p h t x s (Leaf.label uid c fits same) =
    subst (Back p) (sym same)
    (word_back class.Label (λ _ _ _ _. refl) p h code.LabelRef mode.Void (decimal uid) (label_rtx uid) s c (label_code h.code c) (placed_bare p h (rw c refl) s)
    (ap (option_map label_rtx) (uid_again uid fits)) (label_written uid))
leaf_back p h t x s (Leaf.symbol a l more name c items nested is same) = subst (Back p) (sym same) (symbol_back p h name s c is)
