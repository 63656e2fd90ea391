-- Parts that are nested are the parts of some trees.
use Rattle.std.proofs.Common.{◌≡◌, Bool, true, false, cond, List, [], ◌∷◌, ◌++◌, map, Some, None, refl, sym, ap, ◌∙◌, append_assoc}
use Rattle.std.proofs.lemmas.List.{append-nil}
use Rattle.std.proofs.lemmas.List.Concat.{flat_map-append}
use Rattle.rtx_tree.specs.declared.place.Place.{Place}
use Rattle.lisp_read.specs.declared.class.Bracket.{Bracket}
use Rattle.lisp_read.specs.declared.class.Bracket.TheVariants.{Round, Square}
use Rattle.lisp_read.specs.declared.stack.Frame.{Frame}
use Rattle.lisp_read.specs.declared.tree.Tree.{Tree}
use Rattle.lisp_read.specs.declared.tree.Tree.TheVariants as tree
use Rattle.lisp_read.specs.Part.{Part, Atom, Str, Block, Open, Close, enclosed, parts_of, parts_of_all}
use Rattle.lisp_read.specs.Nesting.{same_kind, still_open, IsNested}
use Rattle.lisp_read.specs.machine.Reader.{parts_before}
use Rattle.lisp_read.proofs.PartLemmas.{parts_of-Atom, parts_of-Str, parts_of-Block, parts_of-List, parts_of-Vector}
use Rattle.lisp_read.proofs.Decodes.{nested, frame}

abbrev kinds : List Frame → List Bracket
kinds fs = map (λ (f : Frame). f.kind) fs

abbrev Built : List Part → Type 0
Built all = (ts : List Tree) × (parts_of_all ts ≡ all)

parts_of_nested : (k : Bracket) (p : Place) (ts : List Tree) → parts_of (nested k p ts) ≡ enclosed k p (parts_of_all ts)
parts_of_nested Round p ts = parts_of-List p ts
parts_of_nested Square p ts = parts_of-Vector p ts

-- one tree more
parts_more : (items : List Tree) (t : Tree) (its : List Part) → parts_of t ≡ its → parts_of_all (items ++ t ∷ []) ≡ parts_of_all items ++ its
parts_more items t its e = flat_map-append parts_of items (t ∷ []) ∙ ap (λ (x : List Part). parts_of_all items ++ x) (append-nil (parts_of t) ∙ e)

leaf : (before ps its : List Part) (items : List Tree) (t : Tree) → parts_of t ≡ its → (before ++ parts_of_all (items ++ t ∷ [])) ++ ps ≡ (before ++ parts_of_all items) ++ (its ++ ps)
leaf before ps its items t e =
    ap (λ (x : List Part). (before ++ x) ++ ps) (parts_more items t its e)
    ∙ ap (λ (x : List Part). x ++ ps) (sym (append_assoc before (parts_of_all items) its))
    ∙ append_assoc (before ++ parts_of_all items) its ps

same_kind_is : (j k : Bracket) → same_kind j k ≡ true → j ≡ k
same_kind_is Round Round h = refl
same_kind_is Square Square h = refl
same_kind_is _ _ h = cc

move : (all more : List Part) → more ≡ all → Built more → Built all
move all more e b = (b.0, b.1 ∙ e)

built : (ps : List Part) (fs : List Frame) (items : List Tree) → still_open (kinds fs) ps ≡ Some [] → Built ((parts_before fs ++ parts_of_all items) ++ ps)
built [] [] items h = (items, sym (append-nil (parts_of_all items)))
built [] (f ∷ fs) items h = cc
built (Atom p t ∷ ps) fs items h = move _ _ (leaf (parts_before fs) ps (Atom p t ∷ []) items (tree.Atom p t) (parts_of-Atom p t)) (built ps fs (items ++ tree.Atom p t ∷ []) h)
built (Str p t ∷ ps) fs items h = move _ _ (leaf (parts_before fs) ps (Str p t ∷ []) items (tree.Str p t) (parts_of-Str p t)) (built ps fs (items ++ tree.Str p t ∷ []) h)
built (Block p t ∷ ps) fs items h = move _ _ (leaf (parts_before fs) ps (Block p t ∷ []) items (tree.Block p t) (parts_of-Block p t)) (built ps fs (items ++ tree.Block p t ∷ []) h)
built (Open k p ∷ ps) fs items h =
    move _ _ (ap (λ (x : List Part). x ++ ps) (append-nil ((parts_before fs ++ parts_of_all items) ++ Open k p ∷ [])) ∙ append_assoc (parts_before fs ++ parts_of_all items) (Open k p ∷ []) ps)
    (built ps (frame k p items ∷ fs) [] h)
built (Close k ∷ ps) [] items h = cc
built (Close k ∷ ps) (f ∷ fs) items h = by_test (same_kind f.kind k) refl h (λ more. built ps fs (f.before ++ nested f.kind f.place items ∷ []) more)
  where
    closes : f.kind ≡ k → (parts_before fs ++ parts_of_all (f.before ++ nested f.kind f.place items ∷ [])) ++ ps
        ≡ (((parts_before fs ++ parts_of_all f.before) ++ Open f.kind f.place ∷ []) ++ parts_of_all items) ++ Close k ∷ ps
    closes e =
        leaf (parts_before fs) ps (enclosed f.kind f.place (parts_of_all items)) f.before (nested f.kind f.place items) (parts_of_nested f.kind f.place items)
        ∙ ap (λ (x : List Part). (parts_before fs ++ parts_of_all f.before) ++ (Open f.kind f.place ∷ x)) (append_assoc (parts_of_all items) (Close f.kind ∷ []) ps)
        ∙ ap (λ (j : Bracket). (parts_before fs ++ parts_of_all f.before) ++ (Open f.kind f.place ∷ (parts_of_all items ++ Close j ∷ ps))) e
        ∙ sym (append_assoc (parts_before fs ++ parts_of_all f.before) (Open f.kind f.place ∷ []) (parts_of_all items ++ Close k ∷ ps))
        ∙ sym (append_assoc ((parts_before fs ++ parts_of_all f.before) ++ Open f.kind f.place ∷ []) (parts_of_all items) (Close k ∷ ps))

    by_test : (t : Bool) → same_kind f.kind k ≡ t → cond t (still_open (kinds fs) ps) None ≡ Some []
        → (still_open (kinds fs) ps ≡ Some [] → Built ((parts_before fs ++ parts_of_all (f.before ++ nested f.kind f.place items ∷ [])) ++ ps))
        → Built ((((parts_before fs ++ parts_of_all f.before) ++ Open f.kind f.place ∷ []) ++ parts_of_all items) ++ Close k ∷ ps)
    by_test true e h more = move _ _ (closes (same_kind_is f.kind k e)) (more h)
    by_test false e h more = cc

pub trees_of : (parts : List Part) → IsNested parts → (ts : List Tree) × (parts_of_all ts ≡ parts)
trees_of parts h = built parts [] [] h
