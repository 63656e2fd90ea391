-- Pieces of a text: which parts they spell, wherever they stand, and what may stand before them.
use Rattle.std.proofs.Common.{◌≡◌, ℕ, true, false, List, [], ◌∷◌, ◌++◌, refl, sym, ap, subst, ◌∙◌, append_assoc}
use Rattle.std.proofs.lemmas.List.{map-append, append-nil}
use Rattle.std.proofs.lemmas.List.Concat.{flat_map-cons}
use Rattle.rtx_tree.specs.declared.place.Place.{Place}
use Rattle.lisp_read.specs.declared.class.ByteClass.{ByteClass}
use Rattle.lisp_read.specs.declared.class.ByteClass.TheVariants as class
use Rattle.lisp_read.specs.declared.class.Bracket.TheVariants.{Round}
use Rattle.lisp_read.specs.declared.tree.Tree.{Tree}
use Rattle.lisp_read.specs.Class.{class_of, is_atom_class, is_blank}
use Rattle.lisp_read.specs.Part.{Part, Open, Close, enclosed, parts_of, parts_of_all}
use Rattle.lisp_read.specs.Places.{advance, place_after}
use Rattle.lisp_read.specs.Text as text
use Rattle.lisp_read.specs.Text.{Spells, EndsAtom}
use Rattle.lisp_read.proofs.Runs.{place_after-append}
use Rattle.tree_print.specs.Print.{nowhere}
use Rattle.tree_print.proofs.Nested.{parts_of_nested}
use Rattle.tree_print.proofs.Printed.{printed_atom, printed_string}
use Rattle.tree_print.proofs.SpellsPrinted.{SpelledAs, SpellsAs, spells_printed, admitted_front, admitted_back, then_more}
use Rattle.tree_print.proofs.Unplaced.{bare}
use Rattle.rtl_print.proofs.Written.{atom, string, list}

-- a piece that may stand behind an atom
pub record Piece (ps : List Part) (bytes : List ℕ) : Type 0 where
  pub spells : SpellsAs ps bytes
  pub apart : (rest : List ℕ) → EndsAtom rest → EndsAtom (bytes ++ rest)

-- ---- pieces one behind the other

pub join : (ps rs : List Part) (a b : List ℕ) → SpellsAs ps a → Piece rs b → SpellsAs (ps ++ rs) (a ++ b)
join ps rs a b first second here qs rest admitted ends spelled =
    let there : Place = place_after here a in
    let back : SpelledAs there rs qs (b ++ rest) = second.spells there qs rest (admitted_back ps rs admitted) ends (subst (λ (p : Place). Spells p qs rest) (place_after-append here a b) spelled) in
    let front : SpelledAs here ps (back.parts ++ qs) (a ++ (b ++ rest)) = first here (back.parts ++ qs) (b ++ rest) (admitted_front ps rs admitted) (second.apart rest ends) back.spelled in
    subst (λ (bytes : List ℕ). SpelledAs here (ps ++ rs) qs bytes) (sym (append_assoc a b rest)) (then_more here there ps rs qs (b ++ rest) (a ++ (b ++ rest)) back front)

pub nothing : Piece [] []
nothing = record {
  spells = λ here qs rest admitted ends spelled. record { parts = []; same = refl; spelled = spelled };
  apart = λ rest ends. ends;
}

blank_ends : (c : ByteClass) → is_blank c ≡ true → is_atom_class c ≡ false
blank_ends class.Blank h = refl
blank_ends class.Newline h = refl
blank_ends _ h = cc

behind_blank : (b : ℕ) (ps : List Part) (bytes : List ℕ) → is_blank (class_of b) ≡ true → SpellsAs ps bytes → SpellsAs ps (b ∷ bytes)
behind_blank b ps bytes blank h here qs rest admitted ends spelled =
    let s : SpelledAs (advance here b) ps qs (bytes ++ rest) = h (advance here b) qs rest admitted ends spelled in
    record { parts = s.parts; same = s.same; spelled = text.Spells.blank here (s.parts ++ qs) b (bytes ++ rest) blank s.spelled }

-- a blank carries nothing
pub blank : (b : ℕ) (ps : List Part) (bytes : List ℕ) → is_blank (class_of b) ≡ true → SpellsAs ps bytes → Piece ps (b ∷ bytes)
blank b ps bytes is h = record { spells = behind_blank b ps bytes is h; apart = λ rest ends. blank_ends (class_of b) is }

pub space : (ps : List Part) (bytes : List ℕ) → SpellsAs ps bytes → Piece ps (32 ∷ bytes)
space ps bytes h = blank 32 ps bytes refl h

pub newline : (ps : List Part) (bytes : List ℕ) → SpellsAs ps bytes → Piece ps (10 ∷ bytes)
newline ps bytes h = blank 10 ps bytes refl h

-- ---- lists

pub listed : (ts : List Tree) (bytes : List ℕ) → SpellsAs (parts_of_all ts) bytes → Piece (parts_of (list ts)) (40 ∷ (bytes ++ 41 ∷ []))
listed ts bytes h = record {
  spells = subst (λ (ps : List Part). SpellsAs ps (40 ∷ (bytes ++ 41 ∷ []))) (sym (parts_of_nested Round nowhere ts)) inner;
  apart = λ rest ends. refl;
}
  where
    ps : List Part
    ps = parts_of_all ts

    inner : SpellsAs (enclosed Round nowhere ps) (40 ∷ (bytes ++ 41 ∷ []))
    inner here qs rest admitted ends spelled =
        let inside : Place = advance here 40 in
        let closed : Spells (place_after inside bytes) (Close Round ∷ qs) (41 ∷ rest) =
        text.Spells.closes (place_after inside bytes) qs Round rest (subst (λ (q : Place). Spells q qs rest) (place_after-append inside bytes (41 ∷ [])) spelled) in
        let s : SpelledAs inside ps (Close Round ∷ qs) (bytes ++ 41 ∷ rest) = h inside (Close Round ∷ qs) (41 ∷ rest) (admitted_front ps (Close Round ∷ []) admitted.1) refl closed in
        let opened : Spells here (Open Round here ∷ (s.parts ++ Close Round ∷ qs)) (40 ∷ (bytes ++ 41 ∷ rest)) = text.Spells.opens here (s.parts ++ Close Round ∷ qs) Round (bytes ++ 41 ∷ rest) s.spelled in
        let grouped : Spells here (enclosed Round here s.parts ++ qs) (40 ∷ (bytes ++ 41 ∷ rest)) =
        subst (λ (x : List Part). Spells here (Open Round here ∷ x) (40 ∷ (bytes ++ 41 ∷ rest))) (sym (append_assoc s.parts (Close Round ∷ []) qs)) opened in
        record {
          parts = enclosed Round here s.parts;
          same = ap (λ (x : List Part). bare (Open Round here) ∷ x) (map-append bare s.parts (Close Round ∷ []) ∙ (ap (λ (x : List Part). x ++ Close Round ∷ []) s.same ∙ sym (map-append bare ps (Close Round ∷ []))));
          spelled = subst (λ (x : List ℕ). Spells here (enclosed Round here s.parts ++ qs) (40 ∷ x)) (sym (append_assoc bytes (41 ∷ []) rest)) grouped;
        }

-- trees one behind the other
pub first : (t : Tree) (ts : List Tree) (a b : List ℕ) → SpellsAs (parts_of t) a → Piece (parts_of_all ts) b → SpellsAs (parts_of_all (t ∷ ts)) (a ++ b)
first t ts a b one rest = subst (λ (ps : List Part). SpellsAs ps (a ++ b)) (sym (flat_map-cons parts_of t ts)) (join (parts_of t) (parts_of_all ts) a b one rest)

pub next : (t : Tree) (ts : List Tree) (a b : List ℕ) → SpellsAs (parts_of t) a → Piece (parts_of_all ts) b → Piece (parts_of_all (t ∷ ts)) (32 ∷ (a ++ b))
next t ts a b one rest = space (parts_of_all (t ∷ ts)) (a ++ b) (first t ts a b one rest)

pub last : (t : Tree) (a : List ℕ) → SpellsAs (parts_of t) a → Piece (parts_of_all (t ∷ [])) (32 ∷ a)
last t a one = subst (λ (x : List ℕ). Piece (parts_of_all (t ∷ [])) (32 ∷ x)) (append-nil a) (next t [] a [] one nothing)

pub word : (w : List ℕ) → SpellsAs (parts_of (atom w)) w
word w = subst (SpellsAs (parts_of (atom w))) (printed_atom nowhere w) (spells_printed (atom w))

pub quoted : (s : List ℕ) → SpellsAs (parts_of (string s)) (34 ∷ (s ++ 34 ∷ []))
quoted s = subst (SpellsAs (parts_of (string s))) (printed_string nowhere s) (spells_printed (string s))

-- the same text, written in another way
pub retold : (ps : List Part) (a b : List ℕ) → a ≡ b → SpellsAs ps a → SpellsAs ps b
retold ps a b e h = subst (SpellsAs ps) e h
