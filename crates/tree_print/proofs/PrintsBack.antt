-- The printed text of a tree is read as that tree, places aside.
use Rattle.std.proofs.Common.{◌≡◌, ◌≤◌, ℕ, List, [], ◌∷◌, ◌++◌, length, map, take, drop, Option, Some, None, refl, sym, ap, subst, ◌∙◌}
use Rattle.std.proofs.lemmas.List.{append-nil, take-append-drop}
use Rattle.lisp_read.specs.declared.class.Bracket.{Bracket}
use Rattle.lisp_read.specs.declared.tree.Tree.{Tree}
use Rattle.lisp_read.specs.Places.{start, place_after}
use Rattle.lisp_read.specs.Part.{Part, Atom, Str, Block, Open, Close, parts_of, parts_of_all}
use Rattle.lisp_read.specs.Nesting.{still_open}
use Rattle.lisp_read.specs.Text as text
use Rattle.lisp_read.specs.Text.{Spells, IsText}
use Rattle.rtx_tree.specs.Limit.{most_open}
use Rattle.tree_print.specs.Print.{printed_tree, unplaced, IsPrintable, ReadsBack}
use Rattle.lisp_read.specs.machine.Steps.{State}
use Rattle.lisp_read.specs.machine.Runs.{empty, run, finish, parts_in, ◌>>=◌, IsShallow, Reaches}
use Rattle.lisp_read.proofs.Runs.{run-append}
use Rattle.lisp_read.proofs.Settles.{st, fr, settled, run_finished}
use Rattle.lisp_read.proofs.Rests.{Sounds, Rest}
use Rattle.lisp_read.proofs.Sound.{sound}
use Rattle.lisp_read.proofs.Accepts.{accepts_text}
use Rattle.lisp_read.proofs.Builds.{trees_of}
use Rattle.lisp_read.proofs.Depths.{never_where_read}
use Rattle.tree_print.proofs.Unplaced.{bare, same_unplaced}
use Rattle.tree_print.proofs.Peaks.{balanced, closings, open_is_closed, Below, below_suffix, below_depth}
use Rattle.tree_print.proofs.SpellsPrinted.{SpelledAs, spells_printed}

-- ---- what is open does not depend on places

pub still_open_bare : (w : List Bracket) (ps : List Part) → still_open w (map bare ps) ≡ still_open w ps
still_open_bare w [] = refl
still_open_bare w (Open k p ∷ ps) = still_open_bare (k ∷ w) ps
still_open_bare [] (Close k ∷ ps) = refl
still_open_bare (j ∷ w) (Close k ∷ ps) = rw (still_open_bare w ps) refl
still_open_bare [] (Atom p t ∷ ps) = still_open_bare [] ps
still_open_bare (k ∷ w) (Atom p t ∷ ps) = still_open_bare (k ∷ w) ps
still_open_bare [] (Str p t ∷ ps) = still_open_bare [] ps
still_open_bare (k ∷ w) (Str p t ∷ ps) = still_open_bare (k ∷ w) ps
still_open_bare [] (Block p t ∷ ps) = still_open_bare [] ps
still_open_bare (k ∷ w) (Block p t ∷ ps) = still_open_bare (k ∷ w) ps

closings_bare : (ps : List Part) → closings (map bare ps) ≡ closings ps
closings_bare [] = refl
closings_bare (Open k p ∷ ps) = rw (closings_bare ps) refl
closings_bare (Close k ∷ ps) = rw (closings_bare ps) refl
closings_bare (Atom p t ∷ ps) = closings_bare ps
closings_bare (Str p t ∷ ps) = closings_bare ps
closings_bare (Block p t ∷ ps) = closings_bare ps

pub to_bare : (most : ℕ) (ps : List Part) → Below most ps → Below most (map bare ps)
to_bare most [] h = tt
to_bare most (x ∷ ps) h = (subst (λ (n : ℕ). n ≤ most) (sym (closings_bare (x ∷ ps))) h.0, to_bare most ps h.1)

pub of_bare : (most : ℕ) (ps : List Part) → Below most (map bare ps) → Below most ps
of_bare most [] h = tt
of_bare most (x ∷ ps) h = (subst (λ (n : ℕ). n ≤ most) (closings_bare (x ∷ ps)) h.0, of_bare most ps h.1)

-- ---- a text whose parts are never too deep is read

behind : (bytes : List ℕ) (all : List Part) (j : ℕ) (s : State) → parts_in bytes ≡ Some all → Reaches bytes j s →
    (run (place_after start (take j bytes)) s (drop j bytes) >>= settled) ≡ Some (fr [] all)
behind bytes all j s h reached =
    run_finished (run (place_after start (take j bytes)) s (drop j bytes)) all
    (sym (ap (λ (o : Option State). o >>= finish) (ap (run start empty) (sym (take-append-drop j bytes)) ∙ (run-append start empty (take j bytes) (drop j bytes) ∙ rw reached refl))) ∙ h)

pub shallow : (bytes : List ℕ) (all : List Part) → parts_in bytes ≡ Some all → Below most_open all → IsShallow bytes (length bytes)
shallow bytes all h below j s le reached =
    let rest : Sounds (Rest s.mode) (place_after start (take j bytes)) s.front (fr [] all) (drop j bytes) =
    sound (drop j bytes) s.mode (place_after start (take j bytes)) s.front (fr [] all) (behind bytes all j s h reached) in
    subst (λ (n : ℕ). n ≤ most_open) (sym (open_is_closed s.front.within rest.ps rest.nested))
    (below_suffix most_open s.front.parts rest.ps (subst (Below most_open) rest.whole below))

-- ---- the printed text

pub reads_back : (t : Tree) → IsPrintable t → ReadsBack t
reads_back t h = record {
  trees = built.0;
  reads = (is_text, never_where_read (printed_tree t) (shallow (printed_tree t) (parts_of_all built.0) (accepts_text built.0 (printed_tree t) is_text) low));
  same = same_unplaced built.0 (t ∷ []) (ap (map bare) built.1 ∙ (s.same ∙ ap (map bare) (sym (append-nil (parts_of t)))));
}
  where
    s : SpelledAs start (parts_of t) [] (printed_tree t ++ [])
    s = spells_printed t start [] [] h.admitted tt (text.Spells.end (place_after start (printed_tree t)))

    open_again : still_open [] s.parts ≡ Some []
    open_again =
        sym (still_open_bare [] s.parts)
        ∙ ap (still_open []) s.same
        ∙ still_open_bare [] (parts_of t)
        ∙ ap (still_open []) (sym (append-nil (parts_of t)))
        ∙ balanced t [] []

    built : (ts : List Tree) × (parts_of_all ts ≡ s.parts)
    built = trees_of s.parts open_again

    is_text : IsText built.0 (printed_tree t)
    is_text = record {
      nested = subst (λ (ps : List Part). still_open [] ps ≡ Some []) (sym built.1) open_again;
      spelled = subst (λ (ps : List Part). Spells start ps (printed_tree t)) (append-nil s.parts ∙ sym built.1) (subst (Spells start (s.parts ++ [])) (append-nil (printed_tree t)) s.spelled);
    }

    low : Below most_open (parts_of_all built.0)
    low = subst (Below most_open) (sym built.1) (of_bare most_open s.parts (subst (Below most_open) (sym s.same) (to_bare most_open (parts_of t) (subst (Below most_open) (append-nil (parts_of t)) (below_depth t most_open h.shallow)))))
