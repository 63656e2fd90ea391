-- Expressions that hold others are read back where these are, one class of codes after the other.
use Rattle.std.proofs.Common.{◌≡◌, pos, List, [], ◌∷◌, map, true, Option, Some, None, refl, ap, subst, ◌∙◌}
use Rattle.std.specs.Prelude.{option_and_then}
use Rattle.rtx_tree.specs.declared.code.Code.{Code}
use Rattle.rtx_tree.specs.declared.code.Code.TheVariants as code
use Rattle.rtx_tree.specs.declared.code.Mode.TheVariants as mode
use Rattle.rtx_tree.specs.declared.tree.Rtx.{Rtx}
use Rattle.rtx_tree.specs.Tree.{node_of}
use Rattle.lisp_read.specs.declared.head.Opening.{Opening}
use Rattle.rtx_tree.specs.declared.class.Class.{Class}
use Rattle.rtx_tree.specs.declared.class.Class.TheVariants as class
use Rattle.lisp_read.specs.declared.position.Position.{Position}
use Rattle.lisp_read.specs.declared.position.Position.TheVariants.{Value, Clobbered, Callee, Words, Test, Target, Pc, Pattern}
use Rattle.lisp_read.specs.declared.tree.Tree.{Tree}
use Rattle.rtx_tree.specs.Code.{class_of_code}
use Rattle.lisp_read.specs.Shape.{items_of, vector_at, is_nested_at, is_nested, is_vector_at, is_vector}
use Rattle.lisp_read.specs.Parsed.{stands, parsed_map, each_parsed}
use Rattle.lisp_read.specs.Expression.{meaning_of, elements_of, class_of, read_at, list_by, node_by, parallel_by, positions_of, parts_of_class, if_nested}
use Rattle.lisp_read.proofs.Meanings.{elements_out}
use Rattle.tree_print.specs.Print.{nowhere}
use Rattle.rtl_print.specs.Print.{head_text}
use Rattle.rtl_print.proofs.Induction.{EachAt, Elements}
use Rattle.rtl_print.proofs.Modes.{Placed, placed_again, placed_bare}
use Rattle.rtl_print.proofs.Nodes.{all_nested}
use Rattle.rtl_print.proofs.NodeBack.{Again, plain, exactly_again, at_least_again, comparison_again, setting_again, lowpart_again}
use Rattle.rtl_print.proofs.Opened.{Opened, opened, read_opened}
use Rattle.rtl_print.proofs.Positions.{parts_positions}
use Rattle.rtl_print.proofs.Same.{Same, AllSame, IsVector, as_vector}
use Rattle.rtl_print.proofs.Words.{Back, placed_as}
use Rattle.rtl_print.proofs.Written.{vector, written, written_of, label_tree, parts_by}

abbrev Q : Position → Tree → Rtx → Type 0
Q p t x = Back p x

-- ---- nodes

abbrev Node : Class → Position → Opening → Tree → Tree → List Tree → List Rtx → Type 0
Node c p h t head us kids = list_by c p h t (map meaning_of (head ∷ us)) ≡ stands (node_of h.code h.mode kids)

finish : (c : Class) (h : Opening) (t head : Tree) (us : List Tree) (ps : List Position) (kids : List Rtx) → items_of t ≡ head ∷ us → Again c head us ps kids →
    node_by t h (parts_of_class c (items_of t)) (map meaning_of (head ∷ us)) ≡ stands (node_of h.code h.mode kids)
finish c h t head us ps kids is a =
    ap (λ (items : List Tree). node_by t h (parts_of_class c items) (map meaning_of (head ∷ us))) is
    ∙ (ap (λ (o : Option (List Position)). node_by t h (option_and_then (if_nested (head ∷ us)) o) (map meaning_of (head ∷ us))) a.positions
    ∙ rw a.nested (ap (parsed_map (node_of h.code h.mode)) a.each))

abbrev Stood : Class → Tree → List Tree → List Position → List Rtx → Type 0
Stood c a ts ps kids = (positions_of c (a ∷ ts) ≡ Some ps) × EachAt Q ps ts kids

by_class : (c : Class) (p : Position) (h : Opening) (t a head : Tree) (ts us : List Tree) (ps : List Position) (kids : List Rtx) (labels : List Tree) → Stood c a ts ps kids →
    AllSame us (parts_by c (pos 0) [] (map written kids) labels) → items_of t ≡ head ∷ us → Node c p h t head us kids
by_class class.Memory p h t a head ts us ps kids labels s same is = finish class.Memory h t head us ps kids is (plain class.Memory head ts us ps kids s.1 same (λ len. at_least_again (Value ∷ []) (a ∷ ts) ps head us s.0 len))
by_class class.Lowpart p h t a head ts us ps kids labels s same is = finish class.Lowpart h t head us ps kids is (lowpart_again a head ts us ps kids s.0 s.1 same)
by_class class.Unary p h t a head ts us ps kids labels s same is = finish class.Unary h t head us ps kids is (plain class.Unary head ts us ps kids s.1 same (λ len. exactly_again (Value ∷ []) (a ∷ ts) ps head us s.0 len))
by_class class.Extension p h t a head ts us ps kids labels s same is = finish class.Extension h t head us ps kids is (plain class.Extension head ts us ps kids s.1 same (λ len. exactly_again (Value ∷ []) (a ∷ ts) ps head us s.0 len))
by_class class.Truncation p h t a head ts us ps kids labels s same is = finish class.Truncation h t head us ps kids is (plain class.Truncation head ts us ps kids s.1 same (λ len. exactly_again (Value ∷ []) (a ∷ ts) ps head us s.0 len))
by_class class.Binary p h t a head ts us ps kids labels s same is = finish class.Binary h t head us ps kids is (plain class.Binary head ts us ps kids s.1 same (λ len. exactly_again (Value ∷ Value ∷ []) (a ∷ ts) ps head us s.0 len))
by_class class.Shift p h t a head ts us ps kids labels s same is = finish class.Shift h t head us ps kids is (plain class.Shift head ts us ps kids s.1 same (λ len. exactly_again (Value ∷ Value ∷ []) (a ∷ ts) ps head us s.0 len))
by_class class.Comparison p h t a head ts us ps kids labels s same is = finish class.Comparison h t head us ps kids is (plain class.Comparison head ts us ps kids s.1 same (λ len. comparison_again a head ts us ps kids s.0 s.1 same))
by_class class.Setting p h t a head ts us ps kids labels s same is = finish class.Setting h t head us ps kids is (plain class.Setting head ts us ps kids s.1 same (λ len. setting_again a head ts us ps kids s.0 s.1 same))
by_class class.Use p h t a head ts us ps kids labels s same is = finish class.Use h t head us ps kids is (plain class.Use head ts us ps kids s.1 same (λ len. exactly_again (Value ∷ []) (a ∷ ts) ps head us s.0 len))
by_class class.Clobber p h t a head ts us ps kids labels s same is = finish class.Clobber h t head us ps kids is (plain class.Clobber head ts us ps kids s.1 same (λ len. exactly_again (Clobbered ∷ []) (a ∷ ts) ps head us s.0 len))
by_class class.Call p h t a head ts us ps kids labels s same is = finish class.Call h t head us ps kids is (plain class.Call head ts us ps kids s.1 same (λ len. exactly_again (Callee ∷ Words ∷ []) (a ∷ ts) ps head us s.0 len))
by_class class.Return p h t a head ts us ps kids labels s same is = finish class.Return h t head us ps kids is (plain class.Return head ts us ps kids s.1 same (λ len. exactly_again [] (a ∷ ts) ps head us s.0 len))
by_class class.Counter p h t a head ts us ps kids labels s same is = finish class.Counter h t head us ps kids is (plain class.Counter head ts us ps kids s.1 same (λ len. exactly_again [] (a ∷ ts) ps head us s.0 len))
by_class class.Branch p h t a head ts us ps kids labels s same is = finish class.Branch h t head us ps kids is (plain class.Branch head ts us ps kids s.1 same (λ len. exactly_again (Test ∷ Target ∷ Pc ∷ []) (a ∷ ts) ps head us s.0 len))
by_class class.Scratch p h t a head ts us ps kids labels s same is = finish class.Scratch h t head us ps kids is (plain class.Scratch head ts us ps kids s.1 same (λ len. exactly_again [] (a ∷ ts) ps head us s.0 len))
by_class _ p h t a head ts us ps kids labels s same is = absurd (let wrong : None ≡ Some ps = s.0 in let none : ⊥ = cc in none)

pub node_back : (p : Position) (h : Opening) (a : Tree) (ts : List Tree) (ps : List Position) (kids : List Rtx) → Placed p h → parts_of_class (class_of h) (a ∷ ts) ≡ Some ps → EachAt Q ps ts kids → Back p (node_of h.code h.mode kids)
unfolding Back
node_back p h a ts ps kids s parts each t same =
    let us : List Tree = parts_by (class_of_code h.code) (pos 0) [] (map written kids) (map label_tree kids) in
    let o : Opened t (head_text h.code h.mode) us = opened t (head_text h.code h.mode) us (subst (Same t) (written_of (record { code = h.code; mode = h.mode; number = pos 0; name = [] }) kids) same) in
    read_opened p t h.code h.mode us o h (placed_again p h s)
    ∙ by_class (class_of h) p h t a o.head ts o.parts ps kids (map label_tree kids) ((parts_positions (class_of h) (a ∷ ts) ps parts).0, each) o.same o.items

-- ---- the `parallel`

elements_again : (ts us : List Tree) (kids : List Rtx) → Elements Q ts kids → AllSame us (map written kids) → each_parsed (read_at Pattern) us ≡ stands kids
unfolding Back
elements_again [] [] [] all same = refl
elements_again (t ∷ ts) (u ∷ us) (x ∷ xs) all same = rw (all.1 u same.0) (rw (elements_again ts us xs all.2 same.1) refl)
elements_again [] us (x ∷ xs) all same = absurd all
elements_again [] (u ∷ us) [] all same = absurd same
elements_again (t ∷ ts) us [] all same = absurd all
elements_again (t ∷ ts) [] (x ∷ xs) all same = absurd same

parallel_again : (t head : Tree) (ts us : List Tree) (kids : List Rtx) → Elements Q ts kids → AllSame us (vector (map written kids) ∷ []) → parallel_by t (head ∷ us) (map meaning_of (head ∷ us)) ≡ stands (node_of code.Parallel mode.Void kids)
parallel_again t head ts [] kids all same = absurd same
parallel_again t head ts (v ∷ w ∷ more) kids all same = absurd same.1
parallel_again t head ts (v ∷ []) kids all same =
    let i : IsVector v (map written kids) = as_vector v nowhere (map written kids) same.0 in
    let nested : is_nested v ≡ true = ap is_nested_at i.is in
    let is : is_vector v ≡ true = ap is_vector_at i.is in
    let elements : elements_of v ≡ stands kids =
    elements_out v ∙ rw is (rw (ap vector_at i.is) (rw (all_nested i.items kids i.same) (elements_again ts i.items kids all i.same))) in
    rw nested (ap (parsed_map (node_of code.Parallel mode.Void)) elements)

parallel_code : (c : Code) → class_of_code c ≡ class.Parallel → c ≡ code.Parallel
parallel_code code.Parallel e = refl
parallel_code _ e = cc

pub parallel_back : (p : Position) (h : Opening) (ts : List Tree) (kids : List Rtx) → Placed p h → class_of h ≡ class.Parallel → Elements Q ts kids → Back p (node_of code.Parallel mode.Void kids)
unfolding Back
parallel_back p h ts kids s c all t same =
    let us : List Tree = vector (map written kids) ∷ [] in
    let o : Opened t (head_text code.Parallel mode.Void) us = opened t (head_text code.Parallel mode.Void) us (subst (Same t) (written_of (record { code = code.Parallel; mode = mode.Void; number = pos 0; name = [] }) kids) same) in
    read_opened p t code.Parallel mode.Void us o h (placed_as p h code.Parallel mode.Void s (parallel_code h.code c) (placed_bare p h (rw c refl) s))
    ∙ (ap (λ (k : Class). list_by k p h t (map meaning_of (o.head ∷ o.parts))) c
    ∙ (ap (λ (items : List Tree). parallel_by t items (map meaning_of (o.head ∷ o.parts))) o.items
    ∙ parallel_again t o.head ts o.parts kids all o.same))
