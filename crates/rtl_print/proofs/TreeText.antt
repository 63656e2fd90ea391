-- An expression's text is that of the tree that it writes, on one line.
use Rattle.std.proofs.Common.{◌≡◌, ℕ, ℤ, List, [], ◌∷◌, ◌++◌, map, flat_map, drop, codes, refl, sym, ap, subst, ◌∙◌, append_assoc}
use Rattle.std.specs.List.{AllByRecursion}
use Rattle.std.specs.Fmt.{signed_decimal}
use Rattle.std.proofs.lemmas.List.{append-nil}
use Rattle.std.proofs.lemmas.List.Concat.{flat_map-cons}
use Rattle.rtx_tree.specs.declared.class.Class.{Class}
use Rattle.rtx_tree.specs.declared.class.Class.TheVariants as class
use Rattle.rtx_tree.specs.declared.tree.Rtx.{Rtx, out-Rtx, roll-Rtx, out-roll-Rtx}
use Rattle.rtx_tree.specs.declared.tree.Rtx.TheOpen.{Rtx-F}
use Rattle.rtx_tree.specs.declared.tree.Rtx.TheFolds.{ind-Rtx}
use Rattle.lisp_read.specs.declared.tree.Tree.{Tree}
use Rattle.rtx_tree.specs.Code.{class_of_code}
use Rattle.tree_print.specs.Print.{nowhere, printed_tree, spaced_tree}
use Rattle.tree_print.proofs.Printed.{printed_atom, printed_string, printed_list, printed_vector}
use Rattle.rtl_print.specs.Print.{head_text, printed, printed_reg, starred, printed_body, spaced_text, spaced_number}
use Rattle.rtl_print.proofs.Texts.{printed_out}
use Rattle.rtl_print.proofs.Written.{atom, string, list, vector, written, written_out, label_tree, parts_by}

-- ---- induction over expressions

all_of : (P : Rtx → Type 0) (ys : List ((x : Rtx) × P x)) → AllByRecursion P (map (λ (y : (x : Rtx) × P x). y.0) ys)
all_of P [] = tt
all_of P (y ∷ ys) = (y.1, all_of P ys)

pub rtx_induction : (P : Rtx → Type 0) → ((x : Rtx) → AllByRecursion P (out-Rtx x).kids → P x) → (x : Rtx) → P x
rtx_induction P step = ind-Rtx P (λ x y is.
    step (roll-Rtx x) (subst (λ (o : Rtx-F Rtx). AllByRecursion P o.kids) (sym (out-roll-Rtx x)) (subst (λ (z : Rtx-F Rtx). AllByRecursion P z.kids) is (all_of P y.kids))))

-- ---- trees behind spaces

unfoldable pub spaced_all : List Tree → List ℕ
spaced_all ts = flat_map spaced_tree ts

spaced_cons : (t : Tree) (ts : List Tree) → spaced_all (t ∷ ts) ≡ 32 ∷ (printed_tree t ++ spaced_all ts)
unfolding spaced_all
spaced_cons t ts = flat_map-cons spaced_tree t ts

spaced_one : (t : Tree) (text : List ℕ) → printed_tree t ≡ text → spaced_all (t ∷ []) ≡ 32 ∷ text
unfolding spaced_all
spaced_one t text e = spaced_cons t [] ∙ (ap (λ (x : List ℕ). 32 ∷ (x ++ [])) e ∙ ap (λ (x : List ℕ). 32 ∷ x) (append-nil text))

spaced_behind : (ts : List Tree) (t : Tree) (text : List ℕ) → printed_tree t ≡ text → spaced_all (ts ++ t ∷ []) ≡ spaced_all ts ++ (32 ∷ text)
unfolding spaced_all
spaced_behind [] t text e = spaced_one t text e
spaced_behind (u ∷ us) t text e =
    spaced_cons u (us ++ t ∷ [])
    ∙ (ap (λ (x : List ℕ). 32 ∷ (printed_tree u ++ x)) (spaced_behind us t text e)
    ∙ (ap (λ (x : List ℕ). 32 ∷ x) (sym (append_assoc (printed_tree u) (spaced_all us) (32 ∷ text)))
    ∙ ap (λ (x : List ℕ). x ++ (32 ∷ text)) (sym (spaced_cons u us))))

pub listed : (text : List ℕ) (us : List Tree) → printed_tree (list (atom text ∷ us)) ≡ 40 ∷ (text ++ (spaced_all us ++ 41 ∷ []))
unfolding spaced_all
listed text us =
    printed_list nowhere (atom text ∷ us)
    ∙ (ap (λ (x : List ℕ). 40 ∷ (drop 1 x ++ 41 ∷ [])) (spaced_cons (atom text) us)
    ∙ (ap (λ (x : List ℕ). 40 ∷ ((x ++ spaced_all us) ++ 41 ∷ [])) (printed_atom nowhere text)
    ∙ ap (λ (x : List ℕ). 40 ∷ x) (append_assoc text (spaced_all us) (41 ∷ []))))

quoted : (text : List ℕ) → printed_tree (list (string text ∷ [])) ≡ 40 ∷ 34 ∷ (text ++ 34 ∷ 41 ∷ [])
unfolding spaced_all
quoted text =
    printed_list nowhere (string text ∷ [])
    ∙ (ap (λ (x : List ℕ). 40 ∷ (drop 1 x ++ 41 ∷ [])) (spaced_one (string text) (34 ∷ (text ++ 34 ∷ [])) (printed_string nowhere text))
    ∙ ap (λ (x : List ℕ). 40 ∷ 34 ∷ x) (append_assoc text (34 ∷ []) (41 ∷ [])))

bracketed : (us : List Tree) → printed_tree (vector us) ≡ 91 ∷ (drop 1 (spaced_all us) ++ 93 ∷ [])
unfolding spaced_all
bracketed us = printed_vector nowhere us

-- ---- expressions

IsText : Rtx → Type 0
IsText x = printed x ≡ printed_tree (written x)

texts : (kids : List Rtx) → AllByRecursion IsText kids → flat_map spaced_text kids ≡ spaced_all (map written kids)
unfolding spaced_all IsText
texts [] all = refl
texts (x ∷ xs) all =
    flat_map-cons spaced_text x xs
    ∙ (ap (λ (t : List ℕ). (32 ∷ t) ++ flat_map spaced_text xs) all.0
    ∙ (ap (λ (t : List ℕ). 32 ∷ (printed_tree (written x) ++ t)) (texts xs all.1)
    ∙ sym (spaced_cons (written x) (map written xs))))

labels : (kids : List Rtx) → flat_map spaced_number kids ≡ spaced_all (map label_tree kids)
unfolding spaced_all
labels [] = refl
labels (x ∷ xs) =
    flat_map-cons spaced_number x xs
    ∙ (ap (λ (t : List ℕ). (32 ∷ t) ++ flat_map spaced_number xs) (sym (printed_atom nowhere (signed_decimal (out-Rtx x).number)))
    ∙ (ap (λ (t : List ℕ). 32 ∷ (printed_tree (label_tree x) ++ t)) (labels xs)
    ∙ sym (spaced_cons (label_tree x) (map label_tree xs))))

by_class : (c : Class) (n : ℤ) (name : List ℕ) (kids : List Rtx) → AllByRecursion IsText kids →
    printed_body c n name (flat_map spaced_text kids) (flat_map spaced_number kids) ≡ spaced_all (parts_by c n name (map written kids) (map label_tree kids))
by_class class.Register n name kids all = sym (spaced_one (atom (printed_reg n)) (printed_reg n) (printed_atom nowhere (printed_reg n)))
by_class class.Constant n name kids all = sym (spaced_one (atom (signed_decimal n)) (signed_decimal n) (printed_atom nowhere (signed_decimal n)))
by_class class.Symbol n name kids all = sym (spaced_one (list (string (starred name) ∷ [])) (40 ∷ 34 ∷ (starred name ++ 34 ∷ 41 ∷ [])) (quoted (starred name)))
by_class class.Label n name kids all = labels kids
by_class class.Lowpart n name kids all =
    ap (λ (t : List ℕ). t ++ codes " 0") (texts kids all) ∙ sym (spaced_behind (map written kids) (atom (codes "0")) (codes "0") (printed_atom nowhere (codes "0")))
by_class class.Parallel n name kids all =
    ap (λ (t : List ℕ). codes " [" ++ (drop 1 t ++ codes "]")) (texts kids all) ∙ sym (spaced_one (vector (map written kids)) _ (bracketed (map written kids)))
by_class _ n name kids all = texts kids all

text_step : (x : Rtx) → AllByRecursion IsText (out-Rtx x).kids → IsText x
unfolding IsText
text_step x all =
    let o : Rtx-F Rtx = out-Rtx x in
    let us : List Tree = parts_by (class_of_code o.code) o.number o.name (map written o.kids) (map label_tree o.kids) in
    printed_out x
    ∙ (ap (λ (body : List ℕ). 40 ∷ (head_text o.code o.mode ++ (body ++ 41 ∷ []))) (by_class (class_of_code o.code) o.number o.name o.kids all)
    ∙ (sym (listed (head_text o.code o.mode) us)
    ∙ ap printed_tree (sym (written_out x))))

pub text_is : (x : Rtx) → printed x ≡ printed_tree (written x)
unfolding IsText
text_is x = rtx_induction IsText text_step x
