-- The printed text of a tree spells its parts, at other places.
use Rattle.std.proofs.Common.{◌≡◌, ℕ, Bool, false, List, [], ◌∷◌, ◌++◌, map, flat_map, drop, refl, sym, ap, subst, ◌∙◌, append_assoc}
use Rattle.std.specs.List.{AllByRecursion}
use Rattle.std.proofs.lemmas.List.{map-append, append-nil}
use Rattle.std.proofs.lemmas.List.Concat.{flat_map-cons}
use Rattle.std.proofs.lemmas.List.Folds.{flat_map-map}
use Rattle.rtx_tree.specs.declared.place.Place.{Place}
use Rattle.lisp_read.specs.declared.class.Bracket.{Bracket}
use Rattle.lisp_read.specs.declared.class.Bracket.TheVariants.{Round, Square}
use Rattle.lisp_read.specs.declared.tree.Tree.{Tree}
use Rattle.lisp_read.specs.declared.tree.Tree.TheVariants as tree
use Rattle.lisp_read.specs.Bytes.{quote, open_brace, close_brace}
use Rattle.lisp_read.specs.Class.{open_byte, close_byte}
use Rattle.lisp_read.specs.Places.{advance, place_after}
use Rattle.lisp_read.specs.Part.{Part, Atom, Str, Block, Open, Close, enclosed, parts_of, parts_of_all}
use Rattle.lisp_read.specs.Text as text
use Rattle.lisp_read.specs.Text.{Spells, EndsAtom}
use Rattle.tree_print.specs.Print.{printed_tree, spaced, spaced_tree, AreAdmitted}
use Rattle.lisp_read.proofs.PartLemmas.{parts_of-Atom, parts_of-Str, parts_of-Block}
use Rattle.tree_print.proofs.Nested.{parts_of_nested}
use Rattle.lisp_read.proofs.Decodes.{nested}
use Rattle.lisp_read.proofs.Runs.{place_after-append}
use Rattle.lisp_read.proofs.TreeInduction.{Steps, induction}
use Rattle.tree_print.proofs.Printed.{printed_atom, printed_string, printed_block, printed_nested}
use Rattle.tree_print.proofs.Unplaced.{bare}

-- bytes spell these parts, places aside, and then others
pub record SpelledAs (here : Place) (ps qs : List Part) (bytes : List ℕ) : Type 0 where
  pub parts : List Part
  pub same : map bare parts ≡ map bare ps
  pub spelled : Spells here (parts ++ qs) bytes

-- some parts and then some more
pub then_more : (here there : Place) (ps rs qs : List Part) (more bytes : List ℕ) → (s : SpelledAs there rs qs more) → SpelledAs here ps (s.parts ++ qs) bytes → SpelledAs here (ps ++ rs) qs bytes
then_more here there ps rs qs more bytes s t = record {
  parts = t.parts ++ s.parts;
  same = map-append bare t.parts s.parts ∙ (ap (λ (x : List Part). x ++ map bare s.parts) t.same ∙ (ap (λ (x : List Part). map bare ps ++ x) s.same ∙ sym (map-append bare ps rs)));
  spelled = subst (λ (x : List Part). Spells here x bytes) (sym (append_assoc t.parts s.parts qs)) t.spelled;
}

pub admitted_front : (ps qs : List Part) → AreAdmitted (ps ++ qs) → AreAdmitted ps
admitted_front [] qs h = tt
admitted_front (p ∷ ps) qs h = (h.0, admitted_front ps qs h.1)

pub admitted_back : (ps qs : List Part) → AreAdmitted (ps ++ qs) → AreAdmitted qs
admitted_back [] qs h = h
admitted_back (p ∷ ps) qs h = admitted_back ps qs h.1

abbrev pub SpellsAs : List Part → List ℕ → Type 0
SpellsAs ps bytes = (here : Place) (qs : List Part) (rest : List ℕ) → AreAdmitted ps → EndsAtom rest → Spells (place_after here bytes) qs rest → SpelledAs here ps qs (bytes ++ rest)

SpellsTree : Tree → Type 0
SpellsTree t = SpellsAs (parts_of t) (printed_tree t)

-- ---- trees, each behind a space

abbrev spaced_all : List Tree → List ℕ
spaced_all ts = flat_map spaced_tree ts

ends_spaced : (ts : List Tree) (rest : List ℕ) → EndsAtom rest → EndsAtom (spaced_all ts ++ rest)
ends_spaced [] rest h = h
ends_spaced (t ∷ ts) rest h = refl

-- a tree and then others behind spaces
first_spells : (t : Tree) (ts : List Tree) → SpellsTree t → SpellsAs (parts_of_all ts) (spaced_all ts) → SpellsAs (parts_of t ++ parts_of_all ts) (printed_tree t ++ spaced_all ts)
unfolding SpellsTree
first_spells t ts one others here qs rest admitted ends spelled =
    let there : Place = place_after here (printed_tree t) in
    let back : SpelledAs there (parts_of_all ts) qs (spaced_all ts ++ rest) =
    others there qs rest (admitted_back (parts_of t) (parts_of_all ts) admitted) ends (subst (λ (p : Place). Spells p qs rest) (place_after-append here (printed_tree t) (spaced_all ts)) spelled) in
    let front : SpelledAs here (parts_of t) (back.parts ++ qs) (printed_tree t ++ (spaced_all ts ++ rest)) =
    one here (back.parts ++ qs) (spaced_all ts ++ rest) (admitted_front (parts_of t) (parts_of_all ts) admitted) (ends_spaced ts rest ends) back.spelled in
    subst (λ (bytes : List ℕ). SpelledAs here (parts_of t ++ parts_of_all ts) qs bytes) (sym (append_assoc (printed_tree t) (spaced_all ts) rest))
    (then_more here there (parts_of t) (parts_of_all ts) qs (spaced_all ts ++ rest) (printed_tree t ++ (spaced_all ts ++ rest)) back front)

behind_space : (ps : List Part) (bytes : List ℕ) → SpellsAs ps bytes → SpellsAs ps (32 ∷ bytes)
behind_space ps bytes h here qs rest admitted ends spelled =
    let s : SpelledAs (advance here 32) ps qs (bytes ++ rest) = h (advance here 32) qs rest admitted ends spelled in
    record { parts = s.parts; same = s.same; spelled = text.Spells.blank here (s.parts ++ qs) 32 (bytes ++ rest) refl s.spelled }

all_spell : (ts : List Tree) → AllByRecursion SpellsTree ts → SpellsAs (parts_of_all ts) (spaced_all ts)
all_spell [] h = λ here qs rest admitted ends spelled. record { parts = []; same = refl; spelled = spelled }
all_spell (t ∷ ts) h =
    let e : spaced_all (t ∷ ts) ≡ 32 ∷ (printed_tree t ++ spaced_all ts) = flat_map-cons spaced_tree t ts in
    let f : parts_of_all (t ∷ ts) ≡ parts_of t ++ parts_of_all ts = flat_map-cons parts_of t ts in
    subst (λ (bytes : List ℕ). SpellsAs (parts_of_all (t ∷ ts)) bytes) (sym e)
    (subst (λ (ps : List Part). SpellsAs ps (32 ∷ (printed_tree t ++ spaced_all ts))) (sym f)
    (behind_space (parts_of t ++ parts_of_all ts) (printed_tree t ++ spaced_all ts) (first_spells t ts h.0 (all_spell ts h.1))))

-- trees with a space between each two
separated_spell : (ts : List Tree) → AllByRecursion SpellsTree ts → SpellsAs (parts_of_all ts) (drop 1 (spaced_all ts))
separated_spell [] h = λ here qs rest admitted ends spelled. record { parts = []; same = refl; spelled = spelled }
separated_spell (t ∷ ts) h =
    let e : drop 1 (spaced_all (t ∷ ts)) ≡ printed_tree t ++ spaced_all ts = ap (drop 1) (flat_map-cons spaced_tree t ts) in
    let f : parts_of_all (t ∷ ts) ≡ parts_of t ++ parts_of_all ts = flat_map-cons parts_of t ts in
    subst (λ (bytes : List ℕ). SpellsAs (parts_of_all (t ∷ ts)) bytes) (sym e)
    (subst (λ (ps : List Part). SpellsAs ps (printed_tree t ++ spaced_all ts)) (sym f) (first_spells t ts h.0 (all_spell ts h.1)))

-- ---- brackets

ends_close : (k : Bracket) (rest : List ℕ) → EndsAtom (close_byte k ∷ rest)
ends_close Round rest = refl
ends_close Square rest = refl

enclosed_spells : (k : Bracket) (p : Place) (ps : List Part) (bytes : List ℕ) → SpellsAs ps bytes → SpellsAs (enclosed k p ps) (open_byte k ∷ (bytes ++ close_byte k ∷ []))
enclosed_spells k p ps bytes h here qs rest admitted ends spelled =
    let inside : Place = advance here (open_byte k) in
    let closed : Spells (place_after inside bytes) (Close k ∷ qs) (close_byte k ∷ rest) =
    text.Spells.closes (place_after inside bytes) qs k rest (subst (λ (q : Place). Spells q qs rest) (place_after-append inside bytes (close_byte k ∷ [])) spelled) in
    let s : SpelledAs inside ps (Close k ∷ qs) (bytes ++ close_byte k ∷ rest) = h inside (Close k ∷ qs) (close_byte k ∷ rest) (admitted_front ps (Close k ∷ []) admitted.1) (ends_close k rest) closed in
    let opened : Spells here (Open k here ∷ (s.parts ++ Close k ∷ qs)) (open_byte k ∷ (bytes ++ close_byte k ∷ rest)) = text.Spells.opens here (s.parts ++ Close k ∷ qs) k (bytes ++ close_byte k ∷ rest) s.spelled in
    let grouped : Spells here (enclosed k here s.parts ++ qs) (open_byte k ∷ (bytes ++ close_byte k ∷ rest)) =
    subst (λ (x : List Part). Spells here (Open k here ∷ x) (open_byte k ∷ (bytes ++ close_byte k ∷ rest))) (sym (append_assoc s.parts (Close k ∷ []) qs)) opened in
    record {
      parts = enclosed k here s.parts;
      same = ap (λ (x : List Part). bare (Open k here) ∷ x) (map-append bare s.parts (Close k ∷ []) ∙ (ap (λ (x : List Part). x ++ Close k ∷ []) s.same ∙ sym (map-append bare ps (Close k ∷ []))));
      spelled = subst (λ (x : List ℕ). Spells here (enclosed k here s.parts ++ qs) (open_byte k ∷ x)) (sym (append_assoc bytes (close_byte k ∷ []) rest)) grouped;
    }

nested_spells : (k : Bracket) (p : Place) (ts : List Tree) → AllByRecursion SpellsTree ts → SpellsTree (nested k p ts)
unfolding SpellsTree
nested_spells k p ts h =
    subst (λ (bytes : List ℕ). SpellsAs (parts_of (nested k p ts)) bytes) (sym (printed_nested k p ts))
    (subst (λ (ps : List Part). SpellsAs ps (open_byte k ∷ (drop 1 (spaced_all ts) ++ close_byte k ∷ []))) (sym (parts_of_nested k p ts))
    (enclosed_spells k p (parts_of_all ts) (drop 1 (spaced_all ts)) (separated_spell ts h)))

-- ---- all trees

one_spells : (t : Tree) (x : Part) (bytes : List ℕ) → parts_of t ≡ x ∷ [] → printed_tree t ≡ bytes → SpellsAs (x ∷ []) bytes → SpellsTree t
unfolding SpellsTree
one_spells t x bytes e f h = subst (λ (b : List ℕ). SpellsAs (parts_of t) b) (sym f) (subst (λ (ps : List Part). SpellsAs ps bytes) (sym e) h)

spells : Steps SpellsTree
spells = record {
  atom = λ p t. one_spells (tree.Atom p t) (Atom p t) t (parts_of-Atom p t) (printed_atom p t)
      (λ here qs rest admitted ends spelled. record { parts = Atom here t ∷ []; same = refl; spelled = text.Spells.atom here qs t rest admitted.0 ends spelled });
  string = λ p t. one_spells (tree.Str p t) (Str p t) (quote ∷ (t ++ quote ∷ [])) (parts_of-Str p t) (printed_string p t)
      (λ here qs rest admitted ends spelled. record { parts = Str here t ∷ []; same = refl; spelled = text.Spells.string here qs t rest admitted.0 spelled });
  block = λ p t. one_spells (tree.Block p t) (Block p t) (open_brace ∷ (t ++ close_brace ∷ [])) (parts_of-Block p t) (printed_block p t)
      (λ here qs rest admitted ends spelled. record { parts = Block here t ∷ []; same = refl; spelled = text.Spells.block here qs t rest admitted.0 spelled });
  list = λ p ts h. nested_spells Round p ts h;
  vector = λ p ts h. nested_spells Square p ts h;
}

pub spells_printed : (t : Tree) → SpellsAs (parts_of t) (printed_tree t)
unfolding SpellsTree
spells_printed t = induction SpellsTree spells t
