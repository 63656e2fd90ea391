-- What an expression's text holds, a text may hold.
use Rattle.std.proofs.Common.{◌≡◌, ℕ, pos, List, [], ◌∷◌, ◌++◌, map, Some, codes, refl, sym, subst, arith}
use Rattle.std.specs.List.{AllByRecursion}
use Rattle.std.specs.Fmt.{decimal, signed_decimal}
use Rattle.std.proofs.lemmas.List.Concat.{flat_map-cons}
use Rattle.rtx_tree.specs.declared.code.Code.TheVariants as code
use Rattle.rtx_tree.specs.declared.code.Mode.TheVariants as mode
use Rattle.rtx_tree.specs.declared.tree.Rtx.{Rtx}
use Rattle.rtx_tree.specs.Tree.{node_of}
use Rattle.lisp_read.specs.declared.class.Bracket.{Bracket}
use Rattle.lisp_read.specs.declared.class.Bracket.TheVariants.{Round, Square}
use Rattle.rtx_tree.specs.declared.class.Class.{Class}
use Rattle.rtx_tree.specs.declared.class.Class.TheVariants as class
use Rattle.lisp_read.specs.declared.head.Opening.{Opening}
use Rattle.lisp_read.specs.declared.position.Position.{Position}
use Rattle.lisp_read.specs.declared.tree.Tree.{Tree}
use Rattle.lisp_read.specs.Expression.{class_of, read_at, positions_of, parts_of_class}
use Rattle.lisp_read.specs.Parsed.{stands}
use Rattle.lisp_read.specs.Part.{Part, Close, parts_of, parts_of_all}
use Rattle.lisp_read.specs.Shape.{vector_of}
use Rattle.lisp_read.specs.Text.{IsAtom, IsQuoted}
use Rattle.lisp_read.proofs.Decodes.{nested}
use Rattle.lisp_read.proofs.PartLemmas.{parts_of-Atom, parts_of-Str}
use Rattle.tree_print.specs.Print.{nowhere, AreAdmitted}
use Rattle.tree_print.proofs.Nested.{parts_of_nested}
use Rattle.rtl_print.specs.Print.{head_text, starred}
use Rattle.rtl_print.proofs.Atoms.{word_is_atom, head_is_atom, decimal_is_atom, number_is_atom, register_is_atom, starred_is_quoted}
use Rattle.rtl_print.proofs.Induction.{Holds, EachAt, Elements, holds_of_each}
use Rattle.rtl_print.proofs.Positions.{parts_positions}
use Rattle.rtl_print.proofs.ReadCases.{Leaf}
use Rattle.rtl_print.proofs.Words.{label_written}
use Rattle.rtl_print.proofs.Written.{atom, string, list, vector, written, written_of, label_tree, parts_by}
use Rattle.rtx_tree.specs.Registers.{register_text}

unfoldable pub Admitted : Tree → Type 0
Admitted t = AreAdmitted (parts_of t)

-- ---- trees made of others

pub appended : (ps qs : List Part) → AreAdmitted ps → AreAdmitted qs → AreAdmitted (ps ++ qs)
appended [] qs a b = b
appended (p ∷ ps) qs a b = (a.0, appended ps qs a.1 b)

pub all_admitted : (ts : List Tree) → AllByRecursion Admitted ts → AreAdmitted (parts_of_all ts)
unfolding Admitted
all_admitted [] all = tt
all_admitted (t ∷ ts) all = subst AreAdmitted (sym (flat_map-cons parts_of t ts)) (appended (parts_of t) (parts_of_all ts) all.0 (all_admitted ts all.1))

nested_admitted : (k : Bracket) (ts : List Tree) → AllByRecursion Admitted ts → Admitted (nested k nowhere ts)
unfolding Admitted
nested_admitted k ts all = subst AreAdmitted (sym (parts_of_nested k nowhere ts)) (tt, appended (parts_of_all ts) (Close k ∷ []) (all_admitted ts all) (tt, tt))

pub list_admitted : (ts : List Tree) → AllByRecursion Admitted ts → Admitted (list ts)
list_admitted ts all = nested_admitted Round ts all

pub vector_admitted : (ts : List Tree) → AllByRecursion Admitted ts → Admitted (vector ts)
vector_admitted ts all = nested_admitted Square ts all

pub atom_admitted : (text : List ℕ) → IsAtom text → Admitted (atom text)
unfolding Admitted
atom_admitted text is = subst AreAdmitted (sym (parts_of-Atom nowhere text)) (is, tt)

pub string_admitted : (text : List ℕ) → IsQuoted text → Admitted (string text)
unfolding Admitted
string_admitted text is = subst AreAdmitted (sym (parts_of-Str nowhere text)) (is, tt)

all_behind : (ts us : List Tree) → AllByRecursion Admitted ts → AllByRecursion Admitted us → AllByRecursion Admitted (ts ++ us)
all_behind [] us a b = b
all_behind (t ∷ ts) us a b = (a.0, all_behind ts us a.1 b)

-- ---- expressions

abbrev Q : Position → Tree → Rtx → Type 0
Q p t x = Admitted (written x)

leaf : (p : Position) (h : Opening) (t : Tree) (x : Rtx) → Leaf p h t x → Admitted (written x)
leaf p h t x (Leaf.register r c is fits same) =
    subst (λ (y : Rtx). Admitted (written y)) (sym same)
    (subst Admitted (sym (written_of (record { code = code.Reg; mode = h.mode; number = pos r; name = [] }) []))
    (list_admitted _ (atom_admitted (head_text code.Reg h.mode) (head_is_atom code.Reg h.mode), (atom_admitted (register_text r) (register_is_atom r is), tt))))
leaf p h t x (Leaf.number n c fits same) =
    subst (λ (y : Rtx). Admitted (written y)) (sym same)
    (subst Admitted (sym (written_of (record { code = code.ConstInt; mode = mode.Void; number = n; name = [] }) []))
    (list_admitted _ (atom_admitted (head_text code.ConstInt mode.Void) (head_is_atom code.ConstInt mode.Void), (atom_admitted (signed_decimal n) (number_is_atom n fits), tt))))
leaf p h t x (Leaf.label uid c fits same) =
    subst (λ (y : Rtx). Admitted (written y)) (sym same)
    (subst Admitted (sym (label_written uid))
    (list_admitted _ (atom_admitted (head_text code.LabelRef mode.Void) (head_is_atom code.LabelRef mode.Void), (atom_admitted (decimal uid) (decimal_is_atom uid (omega (arith, fits))), tt))))
leaf p h t x (Leaf.symbol a l more name c items inner is same) =
    subst (λ (y : Rtx). Admitted (written y)) (sym same)
    (subst Admitted (sym (written_of (record { code = code.SymbolRef; mode = h.mode; number = pos 0; name = name }) []))
    (list_admitted _ (atom_admitted (head_text code.SymbolRef h.mode) (head_is_atom code.SymbolRef h.mode), (list_admitted (string (starred name) ∷ []) (string_admitted (starred name) (starred_is_quoted name is), tt), tt))))

elements : (ts : List Tree) (kids : List Rtx) → Elements Q ts kids → AllByRecursion Admitted (map written kids)
elements [] [] all = tt
elements (t ∷ ts) (x ∷ xs) all = (all.1, elements ts xs all.2)
elements [] (x ∷ xs) all = absurd all
elements (t ∷ ts) [] all = absurd all

parallel : (ts : List Tree) (kids : List Rtx) → Elements Q ts kids → Admitted (written (node_of code.Parallel mode.Void kids))
parallel ts kids all =
    subst Admitted (sym (written_of (record { code = code.Parallel; mode = mode.Void; number = pos 0; name = [] }) kids))
    (list_admitted _ (atom_admitted (head_text code.Parallel mode.Void) (head_is_atom code.Parallel mode.Void), (vector_admitted (map written kids) (elements ts kids all), tt)))

each : (ps : List Position) (ts : List Tree) (kids : List Rtx) → EachAt Q ps ts kids → AllByRecursion Admitted (map written kids)
each [] ts [] all = tt
each (p ∷ ps) (t ∷ ts) (x ∷ xs) all = (all.1, each ps ts xs all.2)
each [] ts (x ∷ xs) all = absurd all
each (p ∷ ps) [] kids all = absurd all
each (p ∷ ps) (t ∷ ts) [] all = absurd all

-- the parts of a code that has expressions
by_class : (c : Class) (items : List Tree) (ps : List Position) (kids labels : List Tree) → positions_of c items ≡ Some ps → AllByRecursion Admitted kids → AllByRecursion Admitted (parts_by c (pos 0) [] kids labels)
by_class class.Register items ps kids labels e all = absurd (let none : ⊥ = cc in none)
by_class class.Constant items ps kids labels e all = absurd (let none : ⊥ = cc in none)
by_class class.Symbol items ps kids labels e all = absurd (let none : ⊥ = cc in none)
by_class class.Label items ps kids labels e all = absurd (let none : ⊥ = cc in none)
by_class class.Parallel items ps kids labels e all = absurd (let none : ⊥ = cc in none)
by_class class.Lowpart items ps kids labels e all = all_behind kids (atom (codes "0") ∷ []) all (atom_admitted (codes "0") (word_is_atom (codes "0") refl), tt)
by_class _ items ps kids labels e all = all

node : (h : Opening) (items : List Tree) (ps : List Position) (ts : List Tree) (kids : List Rtx) → parts_of_class (class_of h) items ≡ Some ps → EachAt Q ps ts kids → Admitted (written (node_of h.code h.mode kids))
node h items ps ts kids parts all =
    subst Admitted (sym (written_of (record { code = h.code; mode = h.mode; number = pos 0; name = [] }) kids))
    (list_admitted _ (atom_admitted (head_text h.code h.mode) (head_is_atom h.code h.mode), by_class (class_of h) items ps (map written kids) (map label_tree kids) (parts_positions (class_of h) items ps parts).0 (each ps ts kids all)))

holds : Holds Q
holds = record {
  leaf = λ p h t a ts x placed items l. leaf p h t x l;
  parallel = λ p h t a v kids placed c items is all. parallel (vector_of v) kids all;
  node = λ p h t a ts ps kids placed items parts all. node h (a ∷ ts) ps ts kids parts all;
}

pub admitted : (p : Position) (t : Tree) (x : Rtx) → read_at p t ≡ stands x → Admitted (written x)
admitted p t x e = holds_of_each Q holds t p x e
