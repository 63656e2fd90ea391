-- No two lists of trees have the same parts: the parts tell the trees.
use Rattle.std.proofs.Common.{◌≡◌, List, [], ◌∷◌, ◌++◌, Option, Some, None, sym, ap, ◌∙◌, append_assoc}
use Rattle.std.specs.List.{AllByRecursion}
use Rattle.std.proofs.lemmas.List.{append-nil}
use Rattle.rtx_tree.specs.declared.place.Place.{Place}
use Rattle.lisp_read.specs.declared.class.Bracket.{Bracket}
use Rattle.lisp_read.specs.declared.class.Bracket.TheVariants.{Round, Square}
use Rattle.lisp_read.specs.declared.stack.Frame.{Frame}
use Rattle.lisp_read.specs.declared.tree.Tree.{Tree}
use Rattle.lisp_read.specs.declared.tree.Tree.TheVariants as tree
use Rattle.lisp_read.specs.Part.{Part, Atom, Str, Block, Open, Close, enclosed, parts_of, parts_of_all}
use Rattle.lisp_read.proofs.PartLemmas.{parts_of-Atom, parts_of-Str, parts_of-Block, parts_of-List, parts_of-Vector}
use Rattle.lisp_read.proofs.Settles.{some_is}
use Rattle.lisp_read.proofs.TreeInduction.{Steps, each}

abbrev pub nested : Bracket → Place → List Tree → Tree
nested Round p items = tree.List p items
nested Square p items = tree.Vector p items

abbrev pub frame : Bracket → Place → List Tree → Frame
frame k p items = record { kind = k; place = p; before = items }

-- the trees of the parts, where these lists and vectors are open and these trees stand in the innermost
decode : List Part → List Frame → List Tree → Option (List Tree)
decode [] [] items = Some items
decode [] (f ∷ fs) items = None
decode (Atom p t ∷ ps) fs items = decode ps fs (items ++ tree.Atom p t ∷ [])
decode (Str p t ∷ ps) fs items = decode ps fs (items ++ tree.Str p t ∷ [])
decode (Block p t ∷ ps) fs items = decode ps fs (items ++ tree.Block p t ∷ [])
decode (Open k p ∷ ps) fs items = decode ps (frame k p items ∷ fs) []
decode (Close k ∷ ps) [] items = None
decode (Close k ∷ ps) (f ∷ fs) items = decode ps fs (f.before ++ nested f.kind f.place items ∷ [])

abbrev Decodes : Tree → Type 0
Decodes t = (ps : List Part) (fs : List Frame) (items : List Tree) → decode (parts_of t ++ ps) fs items ≡ decode ps fs (items ++ t ∷ [])

decode_all : (ts : List Tree) → AllByRecursion Decodes ts → (ps : List Part) (fs : List Frame) (items : List Tree) → decode (parts_of_all ts ++ ps) fs items ≡ decode ps fs (items ++ ts)
decode_all [] h ps fs items = ap (decode ps fs) (sym (append-nil items))
decode_all (t ∷ ts) h ps fs items =
    ap (λ (x : List Part). decode x fs items) (append_assoc (parts_of t) (parts_of_all ts) ps)
    ∙ h.0 (parts_of_all ts ++ ps) fs items
    ∙ decode_all ts h.1 ps fs (items ++ t ∷ [])
    ∙ ap (decode ps fs) (append_assoc items (t ∷ []) ts)

decode_enclosed : (k : Bracket) (p : Place) (ts : List Tree) → parts_of (nested k p ts) ≡ enclosed k p (parts_of_all ts) → AllByRecursion Decodes ts → Decodes (nested k p ts)
unfolding decode
decode_enclosed k p ts e h ps fs items =
    ap (λ (x : List Part). decode (x ++ ps) fs items) e
    ∙ ap (λ (x : List Part). decode x (frame k p items ∷ fs) []) (append_assoc (parts_of_all ts) (Close k ∷ []) ps)
    ∙ decode_all ts h (Close k ∷ ps) (frame k p items ∷ fs) []

decodes : Steps Decodes
unfolding decode
decodes = record {
  atom = λ p t ps fs items. ap (λ (x : List Part). decode (x ++ ps) fs items) (parts_of-Atom p t);
  string = λ p t ps fs items. ap (λ (x : List Part). decode (x ++ ps) fs items) (parts_of-Str p t);
  block = λ p t ps fs items. ap (λ (x : List Part). decode (x ++ ps) fs items) (parts_of-Block p t);
  list = λ p ts h. decode_enclosed Round p ts (parts_of-List p ts) h;
  vector = λ p ts h. decode_enclosed Square p ts (parts_of-Vector p ts) h;
}

decode_whole : (ts : List Tree) → decode (parts_of_all ts) [] [] ≡ Some ts
unfolding decode
decode_whole ts = ap (λ (x : List Part). decode x [] []) (sym (append-nil (parts_of_all ts))) ∙ decode_all ts (each Decodes decodes ts) [] [] []

-- trees with the same parts are the same
pub same_trees : (ts us : List Tree) → parts_of_all ts ≡ parts_of_all us → ts ≡ us
same_trees ts us e = some_is ts us (sym (decode_whole ts) ∙ ap (λ (x : List Part). decode x [] []) e ∙ decode_whole us)
